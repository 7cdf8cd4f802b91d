pub mod Causes
pub mod Conditions
pub mod Falsities
pub mod Runs
pub mod Steps
pub mod Words
