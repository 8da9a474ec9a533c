pub mod Levels
pub mod Descent
pub mod Search
