pub mod AscendingLists
mod TaggedMembers
mod KeptPairs
mod SortedMembers
mod LeastDoubles
pub mod ShardsMerged
mod Reordering
