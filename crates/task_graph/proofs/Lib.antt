pub mod Ids
pub mod Sets
pub mod Growing
pub mod Listed
