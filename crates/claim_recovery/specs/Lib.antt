-- Whole runs (01, "Whole runs"): the runs, and the claims about them. Assumes nothing.
pub mod Runs
pub mod Demand
pub mod Mended
pub mod Swapped
pub mod Tallied
