pub mod Plan
pub mod Meaning
pub mod Spelled
