-- The arguments behind the places' laws, and in Laws what other crates cite. Assumes nothing.
pub mod Steps
pub mod Even
pub mod Laws
