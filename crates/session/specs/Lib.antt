pub mod Runs
pub mod Meaning
