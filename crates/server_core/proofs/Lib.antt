pub mod TableChanged
pub mod ServerPlaces
pub mod ServerIsLent
mod Factors
pub mod SendStages
pub mod SendSteps
pub mod OutcomeInTable
pub mod SendComesTo
pub mod ConfigurationStays
pub mod FirstLeast
