pub mod Life
pub mod Placing
pub mod Writings
pub mod Index
pub mod Cached
pub mod Cache
pub mod Laws
