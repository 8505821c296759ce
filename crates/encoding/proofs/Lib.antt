pub mod Columns
pub mod Decoding
pub mod Holding
pub mod Contents
