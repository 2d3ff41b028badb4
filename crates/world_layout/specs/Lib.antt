pub mod Layout
pub mod Naming
pub mod Sight
