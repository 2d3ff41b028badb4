pub mod Decoded
pub mod Errors
