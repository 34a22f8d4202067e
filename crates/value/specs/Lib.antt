pub mod Value
pub mod Format
pub mod Claims
