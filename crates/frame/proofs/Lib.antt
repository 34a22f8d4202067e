pub mod Digits
pub mod Storing
pub mod Lines
pub mod Gathering
pub mod Outcomes
pub mod Feeding
pub mod Running
pub mod Files
