pub mod SharedBits
pub mod FirstBitsSpan
pub mod ByOrder
pub mod OneAddress
pub mod OneNumber
pub mod WordsInOrder
mod TextIsCut
mod InOrder
mod ChangesJoin
mod ReadNumbers
mod StrictNames
mod FewWords
