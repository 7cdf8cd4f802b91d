pub mod Answering
pub mod Shared
