pub mod Known
pub mod Tables
pub mod Declarations
pub mod Parts
pub mod Contexts
pub mod Conditions
pub mod Labels
