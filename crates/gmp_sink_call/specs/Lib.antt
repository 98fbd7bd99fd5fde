-- What the private functions of the sink's call promise. Assumes nothing.
pub mod Parts
