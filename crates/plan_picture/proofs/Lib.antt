pub mod Ahead
mod Waiting
mod Pushed
mod Ending
mod Earliest
mod Ordered
mod Drawing
mod Outlines
mod Tallies
pub mod Onces
