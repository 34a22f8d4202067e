pub mod Copies
pub mod Parts
pub mod Invariant
pub mod Intact
pub mod Claim
