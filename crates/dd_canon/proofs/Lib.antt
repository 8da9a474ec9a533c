pub mod Meetings
pub mod Traversals
pub mod PartialTraversals
pub mod OrderLemmas
mod VisitLemmas
mod StandingLemmas
mod NumberingLemmas
mod FormLemmas
mod OrbitLemmas
mod BestLemmas
mod SymmetryLemmas
mod TieLemmas
