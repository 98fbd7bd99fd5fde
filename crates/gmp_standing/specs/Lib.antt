-- The standings and the count of a sink. Assumes nothing.
pub mod Standing
pub mod Known
