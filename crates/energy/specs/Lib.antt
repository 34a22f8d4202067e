pub mod Reply
pub mod Events
pub mod Tally
pub mod Claim
