pub mod Results
pub mod Pictures
