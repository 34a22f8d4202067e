pub mod Defaults
pub mod Nacks
pub mod Orders
pub mod Places
pub mod Fields
