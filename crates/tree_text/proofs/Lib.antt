pub mod Lists
pub mod Ways
pub mod Cells
pub mod Exact
