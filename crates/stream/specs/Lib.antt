pub mod Stream
pub mod Between
pub mod Claims
