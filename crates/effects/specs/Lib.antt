pub mod Effects
pub mod Parts
pub mod Printing
