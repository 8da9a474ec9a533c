pub mod Spokes
