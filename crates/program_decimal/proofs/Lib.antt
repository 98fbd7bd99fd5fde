-- The number that a text spells. Assumes nothing.
mod Reading
