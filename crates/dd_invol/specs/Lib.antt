pub mod Growth
pub mod Children
pub mod NextTable
pub mod TableSearch
