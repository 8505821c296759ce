pub mod Values
pub mod Grammar
pub mod Reads
pub mod Law
pub mod Account
