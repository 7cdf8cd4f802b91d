pub mod Causes
pub mod Structure
pub mod Reasons
pub mod Facts
