pub mod Xor
pub mod Laws
pub mod Bits
pub mod Window
pub mod Burst
pub mod Rule
