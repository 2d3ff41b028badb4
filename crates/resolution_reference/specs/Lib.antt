pub mod PlainServing
pub mod PlainBase
pub mod Plain
