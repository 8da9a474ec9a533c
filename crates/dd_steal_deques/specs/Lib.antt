pub mod Numbers
pub mod Ends
pub mod Places
pub mod Hands
pub mod Rests
