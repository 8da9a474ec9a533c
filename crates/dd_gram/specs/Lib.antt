pub mod Action
pub mod Form
pub mod Frames
pub mod Loops
pub mod Shifts
pub mod Spreading
pub mod Tori
pub mod Walks
