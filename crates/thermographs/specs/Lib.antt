pub mod Figures
pub mod Near
pub mod Sweep
pub mod Strips
pub mod Rows
pub mod Laws
