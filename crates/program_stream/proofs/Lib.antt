-- What the programs share. Assumes nothing.
pub mod Laws
