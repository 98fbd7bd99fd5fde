-- How many client bytes a source sends. Assumes nothing.
pub mod Sent
