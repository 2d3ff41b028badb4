pub mod Appending
pub mod Errors
pub mod Log
pub mod Transcript
pub mod Checking
