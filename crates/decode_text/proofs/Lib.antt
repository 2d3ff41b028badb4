pub mod TextsOfMessages
