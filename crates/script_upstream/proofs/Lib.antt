pub mod MapAfterPut
pub mod IndexOfOneMore
pub mod IndexFindsLine
pub mod LogStaysTrue
pub mod LogHoldsOn
