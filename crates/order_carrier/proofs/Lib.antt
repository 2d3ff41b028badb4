pub mod LogGrowsByCalls
pub mod KeysCompareEqual
pub mod MomentsStayInOrder
pub mod AsksOnlyServers
pub mod StartAppendsItsEntry
pub mod OutcomeIsOfItsOrder
pub mod LogWaitsOnceMore
pub mod ClosedOnce
pub mod CarrierHoldsOn
mod Slots
mod CallByItsParts
mod ProviderTellsPolls
mod CallByProvider
mod OrderByCallParts
pub mod Sums
pub mod HeldUnderNumber
pub mod CallCountsWaits
pub mod OrderRunsOn
pub mod PolledInFlight
pub mod FreeNumberCarried
pub mod StartedInFlight
pub mod GivenUpInFlight
