pub mod Lists
pub mod Longest
pub mod Meaning
pub mod Replies
pub mod Spelling
