pub mod Linear
pub mod Distance
pub mod Mending
pub mod Laws
