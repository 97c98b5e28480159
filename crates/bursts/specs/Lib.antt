pub mod Burst
pub mod Runs
pub mod Stuck
pub mod Shortest
