pub mod Lines
pub mod Show
