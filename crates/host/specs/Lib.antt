pub mod Build
pub mod Parse
pub mod Applies
pub mod Stored
pub mod Fields
pub mod Claims
