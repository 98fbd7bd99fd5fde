-- A name out of a text of names. Assumes nothing.
pub mod Name
