pub mod Ids
pub mod Barred
pub mod Graph
pub mod Growth
