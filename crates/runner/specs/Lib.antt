pub mod Runs
pub mod Stories
pub mod Law
pub mod Pages
