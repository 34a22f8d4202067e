pub mod Laws
pub mod Places
pub mod Shapes
pub mod EightPages
pub mod Kept
pub mod Decoded
pub mod StoredPart
pub mod Tested
