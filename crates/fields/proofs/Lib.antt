pub mod Pieces
pub mod Putting
pub mod Lists
pub mod Fitting
pub mod Joining
