pub mod Mentioned
pub mod OneLine
pub mod Seeing
pub mod About
pub mod Names
pub mod RunLines
