-- The frame's layout. Assumes nothing.
pub mod Frame
