pub mod Dotted
pub mod WireLength
pub mod LabelsFit
pub mod TextsRead
pub mod ZonesOrdered
pub mod NamesTied
pub mod BytesJoined
