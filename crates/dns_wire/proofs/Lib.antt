pub mod FlagLaws
pub mod Lists
pub mod MessageLaws
pub mod SpelledMessages
pub mod WritableMessages
