pub mod Links
pub mod Followed
pub mod Looked
pub mod Supported
