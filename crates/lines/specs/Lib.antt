pub mod Reading
pub mod Keys
pub mod Lines
pub mod Seen
pub mod Commas
