-- Calls that keep their contracts make the runs that the claims are about (01, "Whole runs").
-- Assumes nothing.
pub mod Observed
pub mod Lent
pub mod Worked
