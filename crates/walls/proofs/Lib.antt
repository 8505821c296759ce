pub mod Straight
pub mod Drawing
pub mod Trails
