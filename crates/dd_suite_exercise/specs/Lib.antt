pub mod Draws
pub mod Choices
pub mod Seeds
pub mod Renumbering
pub mod Items
pub mod Counting
pub mod Tallies
pub mod Exercise
