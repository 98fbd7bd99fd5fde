-- A part of a block goes to its front. Assumes nothing.
pub mod Keep
