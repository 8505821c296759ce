pub mod Options
pub mod Positions
