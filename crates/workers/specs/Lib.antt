pub mod Parts
pub mod Shards
