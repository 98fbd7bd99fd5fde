-- What the placing cites of a row. Assumes nothing.
pub mod Rows
