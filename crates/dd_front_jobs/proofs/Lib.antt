pub mod JobLists
pub mod OpeningLaws
pub mod Places
pub mod Growth
pub mod FirstVisits
pub mod CodeFronts
pub mod Listings
mod AlikeSizes
mod ShardJobs
pub mod PortionLaws
pub mod ShardLaws
pub mod PaceLaws
