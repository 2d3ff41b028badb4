pub mod Book
pub mod Giving
pub mod Qualified
pub mod Upstream
