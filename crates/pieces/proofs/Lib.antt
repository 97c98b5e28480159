pub mod Bytes
pub mod Shifts
