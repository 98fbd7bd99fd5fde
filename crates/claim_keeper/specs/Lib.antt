-- The rate keeper over whole lists of its calls, as they are observed. Assumes nothing.
pub mod Observed
pub mod Worked
