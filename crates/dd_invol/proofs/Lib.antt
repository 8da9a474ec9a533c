pub mod ImageCells
pub mod SoughtStems
pub mod WalkTables
pub mod TableSearches
