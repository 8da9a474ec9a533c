pub mod Desk
pub mod Calls
pub mod Shares
pub mod Ledgers
pub mod Seats
pub mod Blanks
