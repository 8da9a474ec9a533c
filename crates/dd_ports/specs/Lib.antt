pub mod Causes
pub mod Grows
pub mod Texts
pub mod States
pub mod Shelf
pub mod Sinks
pub mod Schedule
pub mod Stores
