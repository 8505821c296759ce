pub mod Maps
pub mod Laws
pub mod Held
pub mod Pairs
pub mod Shows
