-- The rows of a frame, and in Laws what a frame gives back; other crates cite both. Assumes
-- nothing.
pub mod Rows
pub mod Laws
