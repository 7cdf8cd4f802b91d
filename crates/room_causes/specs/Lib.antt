pub mod Nodes
pub mod Conflicts
