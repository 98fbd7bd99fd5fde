-- The arguments behind the placing's proofs, and in Laws what other crates cite. Assumes nothing.
pub mod Copies
mod Filled
mod Runs
mod Parts
mod Turns
mod Singles
pub mod Laws
