pub mod Differing
pub mod Falses
pub mod Ordered
pub mod Placed
pub mod Running
