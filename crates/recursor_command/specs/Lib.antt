pub mod Checking
pub mod Command
pub mod Decoding
pub mod Faults
pub mod Status
