pub mod Agreement
pub mod Causes
pub mod StatusCodes
