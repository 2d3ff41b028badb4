pub mod Numbers
pub mod Reading
pub mod Records
pub mod Sections
pub mod Spelling
