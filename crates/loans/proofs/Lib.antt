pub mod Contracts
pub mod Alike
pub mod Changes
pub mod Runs
pub mod Claims
