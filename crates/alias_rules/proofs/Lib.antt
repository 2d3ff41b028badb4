pub mod Appended
pub mod FirstAlias
pub mod Rings
