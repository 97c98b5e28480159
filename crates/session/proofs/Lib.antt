pub mod Plays
pub mod Fitting
pub mod Playing
pub mod Running
pub mod Meaning
