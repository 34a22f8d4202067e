pub mod Rules
pub mod Changing
pub mod Held
pub mod Stored
pub mod Calling
pub mod Ending
pub mod Powering
