pub mod Written
pub mod WrittenLemmas
