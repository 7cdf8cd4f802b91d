pub mod Mentions
pub mod Sightings
pub mod Spots
pub mod Errors
pub mod Explanation
pub mod Numbers
pub mod Places
pub mod RunText
