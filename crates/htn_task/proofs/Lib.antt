pub mod Compared
pub mod Merged
pub mod Sets
pub mod Equal
pub mod Found
pub mod Numbering
pub mod Bodies
pub mod Flags
