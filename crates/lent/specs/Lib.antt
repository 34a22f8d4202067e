pub mod Lent
pub mod Every
pub mod PowerOn
