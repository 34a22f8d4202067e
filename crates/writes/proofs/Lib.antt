pub mod Kept
pub mod Applies
pub mod Accepted
pub mod Shows
