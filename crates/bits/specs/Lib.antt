pub mod Bit
pub mod Merge
pub mod Run
