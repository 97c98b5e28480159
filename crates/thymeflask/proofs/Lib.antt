pub mod Crossing
pub mod Empty
pub mod Packing
