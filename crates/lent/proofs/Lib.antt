pub mod Known
pub mod Taken
pub mod Outcomes
pub mod Sweep
pub mod Powered
pub mod Seen
pub mod Judged
