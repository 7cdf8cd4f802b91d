pub mod Ids
pub mod Preorder
pub mod Walk
pub mod Items
pub mod Gathered
