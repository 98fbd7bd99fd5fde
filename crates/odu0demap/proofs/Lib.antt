-- The program odu0demap. Assumes nothing.
mod Going
