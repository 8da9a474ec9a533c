pub mod Requests
pub mod HeldTexts
pub mod LongFiles
mod Pieces
pub mod FetchedFronts
pub mod MergedOfHeld
