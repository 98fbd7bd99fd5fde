pub mod Choice
pub mod Xor
pub mod Finite
pub mod Linear
pub mod Bits
pub mod Fold
