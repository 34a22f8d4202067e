pub mod Inverse
pub mod Sent
pub mod Understood
pub mod Heard
pub mod Lent
pub mod Streamed
pub mod Claims
