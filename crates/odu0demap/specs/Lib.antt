-- The program odu0demap. Assumes nothing.
pub mod Demapping
