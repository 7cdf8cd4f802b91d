pub mod Standings
pub mod Failing
pub mod Sets
pub mod Forests
