pub mod PlainServed
pub mod PlainBased
pub mod SectionTests
pub mod LeastLeft
