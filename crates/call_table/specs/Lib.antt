pub mod Estimates
pub mod Lists
pub mod Sites
pub mod Views
