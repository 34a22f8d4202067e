pub mod Account
pub mod Sampling
