pub mod Unpaged
pub mod Events
pub mod Applies
pub mod Refusals
pub mod PowerOn
pub mod ValidFields
