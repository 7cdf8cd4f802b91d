mod Building
mod Lines
mod Matches
mod Unique
