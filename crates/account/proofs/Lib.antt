pub mod Laws
pub mod Sampling
