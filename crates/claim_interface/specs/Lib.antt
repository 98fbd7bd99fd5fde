-- What a caller of the C interface sees are the runs that the claims are about (01, "Whole runs").
-- Assumes nothing.
pub mod Observed
