-- The check of the control word, and what a word reads as. Assumes nothing.
pub mod Division
pub mod Check
pub mod Checked
pub mod Claims
pub mod Worked
