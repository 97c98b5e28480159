pub mod Rounding
pub mod Numbers
pub mod Limits
pub mod Answer
pub mod Acceptable
pub mod Meaning
