pub mod Form
pub mod Layout
pub mod State
pub mod Private
