pub mod Answers
pub mod States
pub mod Meaning
pub mod Sending
