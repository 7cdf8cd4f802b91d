pub mod CommandLine
pub mod Examples
pub mod Help
pub mod Misuse
pub mod Request
