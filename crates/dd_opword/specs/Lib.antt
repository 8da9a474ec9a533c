pub mod Words
pub mod Meaning
pub mod Composed
pub mod Together
