pub mod RunEndings
pub mod RunOutputs
pub mod FileOutcomes
pub mod MergeOutcomes
pub mod RunOutcomes
pub mod ExerciseOutcomes
pub mod Clauses
pub mod CheckValues
pub mod ShardFetches
pub mod RunCalls
pub mod ProgramCalls
mod ShardRuns
