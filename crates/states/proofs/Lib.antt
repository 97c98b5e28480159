pub mod Parts
pub mod Cross
pub mod Refusals
