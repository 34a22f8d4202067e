pub mod Outcomes
pub mod Applies
