pub mod Held
pub mod Parts
pub mod Drafts
pub mod Contents
pub mod Seats
pub mod Diagrams
pub mod Positions
