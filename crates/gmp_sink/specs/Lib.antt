-- The sink. Assumes nothing.
pub mod Sink
