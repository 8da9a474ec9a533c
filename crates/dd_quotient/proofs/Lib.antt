pub mod Deciding
pub mod AllTables
pub mod Reached
pub mod LeastClasses
pub mod Members
mod Candidates
pub mod Sorted
pub mod Texts
pub mod ExistingImages
pub mod DualLemmas
pub mod SumLemmas
pub mod MeetLemmas
pub mod ClassLemmas
pub mod OntoLemmas
pub mod ImageLemmas
pub mod RankLemmas
pub mod NumberedLemmas
