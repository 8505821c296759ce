pub mod Heads
pub mod Jobs
pub mod Loops
pub mod Tellings
