pub mod FlatShares
mod LevelLists
pub mod Descents
pub mod GoingBack
pub mod Splits
pub mod FirstMembers
pub mod Emissions
