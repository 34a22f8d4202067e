pub mod Applies
pub mod Refusals
pub mod PowerOn
pub mod ValidFields
