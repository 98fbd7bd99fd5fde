-- The source. Assumes nothing.
pub mod Source
