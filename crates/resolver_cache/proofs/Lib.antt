mod LeastFound
mod Counted
mod SameQuestion
mod LeastThere
mod CacheWithinSize
mod NumberKeys
mod ExpiriesStay
mod Above
mod LeastDated
mod ByNumber
mod QuestionOrder
mod EntriesUnderQuestions
mod CopiesRenumbered
mod CurrentRead
pub mod FoundThere
pub mod OneWritten
