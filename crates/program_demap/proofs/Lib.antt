-- The arguments behind a frame to the sink. Assumes nothing.
mod Laws
