pub mod Meaning
pub mod Sending
