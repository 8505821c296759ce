pub mod Sides
pub mod Refusals
