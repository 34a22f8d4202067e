pub mod Hex
pub mod Text
pub mod Gather
pub mod Frame
pub mod Line
pub mod Blocks
pub mod File
