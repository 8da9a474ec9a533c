pub mod CodePlaces
mod Places
mod Growth
