pub mod Device
pub mod Step
pub mod Supply
pub mod Touches
pub mod Private
