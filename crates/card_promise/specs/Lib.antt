-- The sink's call with the card's tallies. Assumes nothing.
pub mod Card
