mod FirstForeignRecord
mod Unfiltered
pub mod FirstThatPasses
pub mod KeptErrorOverEnds
pub mod QueueStandsOn
pub mod StillToBeDone
pub mod LookupEnds
pub mod QueueAfterEnd
pub mod AnyOrderOfSends
