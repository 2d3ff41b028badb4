pub mod Resolving
pub mod Resolved
pub mod Steps
