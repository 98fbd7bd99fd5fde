-- The program odu0map. Assumes nothing.
mod Loads
