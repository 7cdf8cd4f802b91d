pub mod Keeping
pub mod Leading
pub mod Numbering
pub mod Staying
pub mod Told
