-- The card's tallies: that of a port, and those of all its ports. Assumes nothing.
pub mod Tally
pub mod Ports
