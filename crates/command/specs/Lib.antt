pub mod Table
pub mod Meaning
pub mod Agreement
pub mod Causes
pub mod Paged
pub mod Quantity
