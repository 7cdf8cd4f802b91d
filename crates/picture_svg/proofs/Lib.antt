pub mod Rows
pub mod Starts
pub mod Centring
pub mod Pictured
mod Nodes
mod Chains
mod Measuring
mod Blocks
mod Lefts
mod Spots
mod Overlaps
mod Crossings
mod Joined
mod Texts
mod TameSvg
mod Determined
