pub mod ListsRelated
pub mod NarrowerTest
pub mod ByAddress
pub mod PoolsHoldOn
pub mod ServersAreReached
pub mod LookupsPromised
mod NewServers
pub mod OpenOrdersListed
pub mod NextStepLeaves
pub mod OutcomeLeaves
pub mod LookupsRun
pub mod Sendings
pub mod FewEndsByAddress
pub mod LeftAtAddresses
pub mod UnderNumbers
pub mod OneLookupChanged
