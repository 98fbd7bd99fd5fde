-- The rate keeper, the sum of the counts that it gives, and that this is nearest to the rate's.
-- Assumes nothing.
pub mod Keeper
pub mod Sum
pub mod Nearest
pub mod Worked
