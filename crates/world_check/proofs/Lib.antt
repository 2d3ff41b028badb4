pub mod LowestClause
pub mod NoZoneOnTheWay
pub mod ServedByRecords
