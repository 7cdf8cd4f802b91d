pub mod TermsAgree
pub mod Nesting
pub mod ConditionsAgree
pub mod NetworksAgree
pub mod SectionsAgree
pub mod Turns
pub mod Laws
