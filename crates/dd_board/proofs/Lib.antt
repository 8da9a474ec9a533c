pub mod Desks
mod Firsts
mod Numbers
mod Seated
mod Totals
mod JobsOf
pub mod Openings
