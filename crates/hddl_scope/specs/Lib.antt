pub mod Ranks
pub mod Findings
pub mod Numbers
pub mod Repeats
pub mod Scopes
pub mod InForce
