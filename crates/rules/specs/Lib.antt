pub mod Meaning
pub mod Positions
