-- The settings as the plain numbers that C and Rust give. Assumes nothing.
pub mod Numbers
pub mod Lossless
