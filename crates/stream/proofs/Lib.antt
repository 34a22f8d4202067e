pub mod Prefix
pub mod Sent
pub mod Parts
pub mod Fold
pub mod Claims
pub mod Stopping
