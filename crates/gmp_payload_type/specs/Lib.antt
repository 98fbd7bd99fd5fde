-- The payload type (02, P4). Assumes nothing.
pub mod Types
pub mod Claims
pub mod Worked
