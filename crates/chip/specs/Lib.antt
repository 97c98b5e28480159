pub mod File
pub mod Map
pub mod Fields
