pub mod Signs
pub mod Cross
