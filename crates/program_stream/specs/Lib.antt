-- What the filters share. Assumes nothing.
pub mod Gather
