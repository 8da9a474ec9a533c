pub mod Cells
pub mod Curvature
pub mod Euler
pub mod Fraction
pub mod Orientation
pub mod Surface
pub mod Coloring
