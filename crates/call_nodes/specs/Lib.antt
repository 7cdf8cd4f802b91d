pub mod Cells
pub mod Nodes
pub mod Numbered
