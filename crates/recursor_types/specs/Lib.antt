pub mod ErrorTexts
pub mod Options
pub mod Policy
