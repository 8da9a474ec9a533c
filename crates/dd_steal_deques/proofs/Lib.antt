mod Totals
mod Rules
mod Changed
mod Emptied
mod Others
mod Linked
mod Joined
mod Thefts
