pub mod Entries
pub mod HeightPass
pub mod StopPass
