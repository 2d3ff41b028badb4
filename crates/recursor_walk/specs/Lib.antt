pub mod Walk
pub mod Way
pub mod SameTold
pub mod Replies
pub mod SourcedVerdict
pub mod ZoneQuery
