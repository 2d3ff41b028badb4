pub mod Sections
pub mod NothingIsDenied
pub mod NotKept
pub mod GlueOfServers
pub mod FilteredCounts
pub mod RunsOfLookups
