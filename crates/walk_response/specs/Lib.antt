pub mod Answer
pub mod Kept
pub mod Lending
pub mod Response
pub mod Candidate
pub mod Shown
