pub mod Adding
pub mod Lengths
pub mod Parting
pub mod Lasting
pub mod Bounds
pub mod Fitted
