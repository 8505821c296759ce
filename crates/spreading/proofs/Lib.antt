pub mod Rows
pub mod BreadthFirst
pub mod Everywhere
pub mod Shapes
pub mod Passes
pub mod Spreads
pub mod Taken
