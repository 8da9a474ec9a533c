pub mod Spacing
pub mod LineTexts
pub mod LinesAdded
pub mod NextPart
pub mod ShapeParts
pub mod SizeParts
pub mod Digits
mod FaultMakers
pub mod HeadReads
pub mod SizeReads
pub mod ListReads
pub mod TextReads
pub mod ListSteps
pub mod ImageReads
pub mod CellReads
pub mod SymbolReads
pub mod ItemReads
pub mod TextExclusion
pub mod ListExclusion
pub mod SymbolExclusion
pub mod RowExclusion
pub mod TextUnique
pub mod ListUnique
pub mod RowUnique
mod CountingUp
mod RestReads
mod OutlineMade
