pub mod Writes
pub mod Tamed
mod Quotes
mod TameGraphs
mod Objects
mod Forests
mod Readings
mod TextForests
mod GraphForests
