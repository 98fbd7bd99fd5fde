-- What is written to a row and taken out of it. Assumes nothing.
pub mod Row
pub mod Copied
