pub mod Orders
pub mod Signed
pub mod Powers
pub mod Laws
pub mod Shared
pub mod Valid
pub mod Claims
