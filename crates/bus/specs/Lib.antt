pub mod Part
pub mod Automaton
pub mod Ack
pub mod Orders
pub mod Places
pub mod Fields
