pub mod Replies
pub mod Applies
