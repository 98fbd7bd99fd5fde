-- The program odu0map. Assumes nothing.
pub mod Mapping
