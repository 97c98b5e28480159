pub mod Widths
pub mod Back
pub mod Same
pub mod Answers
pub mod Meaning
pub mod Offsets
