-- The refusals of the mapper's calls. Assumes nothing.
pub mod Refusal
