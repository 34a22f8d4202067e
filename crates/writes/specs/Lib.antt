pub mod Asked
pub mod Answers
pub mod Left
pub mod Applies
pub mod Accepted
pub mod Shows
