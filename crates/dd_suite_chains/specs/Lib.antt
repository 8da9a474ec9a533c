pub mod Words
pub mod Runs
pub mod Making
pub mod Turns
pub mod Drives
pub mod Sentences
