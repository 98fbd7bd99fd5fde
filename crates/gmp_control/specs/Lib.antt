-- The control word: what a source announces by it, and what a sink makes of it. Assumes nothing.
pub mod Word
pub mod Pattern
pub mod Announce
pub mod Follow
pub mod Claims
pub mod Checked
pub mod Worked
