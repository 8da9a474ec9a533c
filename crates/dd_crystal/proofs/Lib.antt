pub mod TwoSheets
pub mod CrystalLaw
pub mod Fibers
pub mod Passing
pub mod Multiples
pub mod Fewest
