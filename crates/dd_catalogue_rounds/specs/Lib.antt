pub mod Works
pub mod Splits
pub mod Ways
pub mod Outs
pub mod Kept
pub mod Steps
pub mod WholeSizes
