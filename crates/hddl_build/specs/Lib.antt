pub mod Scopes
pub mod Vocabularies
pub mod Labels
pub mod Initial
pub mod InForce
