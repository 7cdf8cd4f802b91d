pub mod Fronts
pub mod Running
pub mod Listed
pub mod Sound
pub mod Growing
