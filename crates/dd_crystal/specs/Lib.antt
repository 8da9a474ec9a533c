pub mod SheetCounts
pub mod AnyBranching
pub mod Faults
