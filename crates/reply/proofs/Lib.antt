pub mod Lowest
pub mod Refusals
