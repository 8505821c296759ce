pub mod Maps
pub mod Play
pub mod Boards
pub mod Codes
pub mod PlayLemmas
