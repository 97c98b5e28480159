pub mod Replies
pub mod Told
