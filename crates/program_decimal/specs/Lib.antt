-- The number that a text spells. Assumes nothing.
pub mod Number
