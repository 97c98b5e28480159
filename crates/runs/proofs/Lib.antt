pub mod Behind
pub mod Finding
pub mod Fixing
pub mod Gaps
pub mod Joining
pub mod Opening
pub mod Stuck
