pub mod Page
pub mod Sheet
pub mod Fitting
pub mod Sheets
