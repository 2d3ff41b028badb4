pub mod Turns
pub mod RecursorState
pub mod Runs
pub mod Recursor
pub mod Derived
pub mod Machine
pub mod Plays
