pub mod Answered
pub mod Games
pub mod Landings
pub mod Lists
pub mod Positions
pub mod Presents
pub mod Seated
