pub mod Pools
pub mod Lookup
pub mod Taking
