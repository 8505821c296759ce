pub mod Maps
pub mod Held
pub mod Pairs
pub mod Joins
pub mod Steps
