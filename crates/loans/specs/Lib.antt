pub mod Alike
pub mod Changes
pub mod Loans
pub mod Runs
pub mod Claims
