pub mod Fields
pub mod Laws
pub mod Lying
pub mod Shapes
