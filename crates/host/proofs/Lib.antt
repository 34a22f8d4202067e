pub mod Places
pub mod Frames
pub mod Applies
pub mod Stored
pub mod Fields
pub mod Claims
