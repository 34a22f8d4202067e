pub mod Conversion
pub mod Place
pub mod Vout
pub mod Nearest
pub mod Claims
pub mod Examples
