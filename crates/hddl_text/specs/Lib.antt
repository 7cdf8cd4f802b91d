pub mod Drafts
pub mod Grammar
pub mod Readers
pub mod Spelling
