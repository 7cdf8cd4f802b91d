pub mod Meaning
pub mod Ways
pub mod Masks
pub mod Parts
pub mod Checked
