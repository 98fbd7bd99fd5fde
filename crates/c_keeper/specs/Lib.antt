-- The rate keeper's replies as the plain numbers that C and Rust see. Assumes nothing.
pub mod Numbers
