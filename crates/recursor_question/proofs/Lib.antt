pub mod Words
pub mod ResolutionAfterStep
pub mod QuestionHasNext
pub mod QuestionAdvances
