-- Where the client bytes stand in a payload, and how evenly they lie. Assumes nothing.
pub mod Places
pub mod Even
pub mod Worked
