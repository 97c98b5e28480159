pub mod Meaning
pub mod Starts
pub mod Accepted
