pub mod NameByRecords
