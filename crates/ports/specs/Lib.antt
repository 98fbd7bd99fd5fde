-- The ports of the card. Assumes nothing.
pub mod Port
