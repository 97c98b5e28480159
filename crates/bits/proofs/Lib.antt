pub mod Digits
pub mod Merging
pub mod Runs
pub mod Tests
pub mod Stores
