pub mod Rows
pub mod Written
pub mod Seen
