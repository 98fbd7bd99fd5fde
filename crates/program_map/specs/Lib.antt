-- A load to the source, as odu0map maps it. Assumes nothing.
pub mod Frames
