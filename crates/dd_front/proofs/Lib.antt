pub mod ValidRequests
pub mod Placed
pub mod Replaced
mod Kept
mod Packing
mod Firsts
mod Blocks
mod Joins
pub mod Rounding
mod Lasting
mod Shutting
mod SmallCodes
mod Emitted
mod Skipped
pub mod Spanning
pub mod Telling
pub mod Standing
pub mod Splitting
pub mod GoingOn
pub mod Entries
pub mod Holding
pub mod Events
pub mod Absorbing
pub mod Runs
