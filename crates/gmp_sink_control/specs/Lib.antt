-- What the functions of this crate promise. Assumes nothing.
pub mod Control
