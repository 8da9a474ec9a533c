pub mod Choices
pub mod Trials
pub mod Adds
pub mod Passes
