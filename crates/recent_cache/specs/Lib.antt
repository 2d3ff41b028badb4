pub mod HashKeys
pub mod Recent
pub mod Rests
