pub mod Merging
pub mod Members
pub mod Doubles
pub mod ShardLists
