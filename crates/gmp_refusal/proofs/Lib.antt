-- In Laws and Names stands what other crates cite. Assumes nothing.
pub mod Laws
pub mod Names
