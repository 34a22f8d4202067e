pub mod Transactions
pub mod Understood
pub mod Lent
pub mod Streamed
pub mod Claims
