pub mod Tree
pub mod Choosing
pub mod Aliases
pub mod Short
