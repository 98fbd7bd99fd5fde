pub mod Laws
pub mod Taken
mod Going
