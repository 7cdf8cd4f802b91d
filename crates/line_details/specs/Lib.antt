pub mod Details
pub mod Certificate
pub mod Worked
pub mod Entries
pub mod Found
