pub mod InTurnLemmas
pub mod TorusForms
pub mod MadeOnce
pub mod DrawnOnce
pub mod TotalsLemmas
pub mod TotalsSteps
pub mod InfoLemmas
pub mod SheetLinesOnce
pub mod FileTexts
pub mod CanonTexts
pub mod MergedTexts
mod LinesInParts
mod SymbolStops
pub mod LineLengths
pub mod ShardTexts
