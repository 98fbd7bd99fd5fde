-- The sink's values as the plain numbers that C and Rust see. Assumes nothing.
pub mod Numbers
pub mod Lossless
