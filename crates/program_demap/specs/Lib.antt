-- A frame to the sink, as odu0demap takes it. Assumes nothing.
pub mod Frames
