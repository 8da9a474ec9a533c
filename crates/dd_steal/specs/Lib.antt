pub mod Sweep
pub mod Worker
