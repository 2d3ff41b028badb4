pub mod Key
pub mod KeptError
pub mod Statistics
pub mod Ordering
pub mod AnswerFilter
pub mod RetryQueue
