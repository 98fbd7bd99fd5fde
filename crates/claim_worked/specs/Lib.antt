-- Worked frames, and that demand 3 is neither empty nor more than it need be. Assumes nothing.
pub mod Starred
pub mod Run
pub mod Customer
pub mod Mended
pub mod Typed
pub mod Readable
pub mod Less
pub mod Enough
