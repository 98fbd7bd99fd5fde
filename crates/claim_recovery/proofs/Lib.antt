pub mod Lists
pub mod Bytes
pub mod Threads
pub mod Along
pub mod Types
pub mod Claims
mod Tallied
mod Flagged
mod Swapped
