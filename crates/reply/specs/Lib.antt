pub mod Reply
pub mod Refusals
