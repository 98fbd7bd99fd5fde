-- What the program cites of a mapper. Assumes nothing.
pub mod Laws
