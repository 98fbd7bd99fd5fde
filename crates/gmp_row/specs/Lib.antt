-- A row whose numbers are told, and those numbers. Assumes nothing.
pub mod Row
