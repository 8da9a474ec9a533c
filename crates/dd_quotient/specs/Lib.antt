pub mod Dual
pub mod Alike
pub mod MinimalImage
pub mod Ranks
pub mod Faults
