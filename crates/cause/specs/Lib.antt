pub mod Causes
pub mod Kinds
pub mod Regular
