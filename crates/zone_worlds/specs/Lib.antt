pub mod Telling
pub mod Answer
pub mod Valid
pub mod Index
