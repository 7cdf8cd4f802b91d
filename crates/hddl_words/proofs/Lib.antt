pub mod Tokens
pub mod WordsLemmas
pub mod Agree
pub mod AgreeMore
pub mod Loops
pub mod WordFaults
pub mod BracketLemmas
pub mod BracketFaults
