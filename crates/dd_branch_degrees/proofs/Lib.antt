pub mod Choices
pub mod Budgets
pub mod Chosen
pub mod Assigned
mod Bits
pub mod Leaves
pub mod RestSums
pub mod Advancing
pub mod Finishing
pub mod PlacesInCell
pub mod PlaceTurns
pub mod PlaceCells
pub mod Beginnings
pub mod LikeNoOther
mod TurnedDegrees
