mod Parts
mod InTurn
mod Whole
mod Settled
mod Steps
mod Held
