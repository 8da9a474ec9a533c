pub mod Chains
pub mod ShardChains
