pub mod Tables
mod Parity
mod Pairing
mod Announced
pub mod Reached
pub mod Laws
mod Needed
pub mod Named
