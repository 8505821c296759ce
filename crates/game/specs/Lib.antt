pub mod Rows
pub mod Options
pub mod Presents
pub mod State
