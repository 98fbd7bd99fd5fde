-- What odu0demap has to tell of a frame. Assumes nothing.
pub mod Told
