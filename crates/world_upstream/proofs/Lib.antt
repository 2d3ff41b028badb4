pub mod LogStaysTrue
pub mod OpenStaysTrue
pub mod ToldNames
