-- Why a call is turned back. Assumes nothing.
pub mod Table
