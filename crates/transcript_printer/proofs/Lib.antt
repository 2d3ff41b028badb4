pub mod TextsAppended
pub mod OneMoreValidity
