mod Steps
pub mod Refused
mod Places
mod Kept
mod Own
mod Warned
mod Errors
mod Planned
mod Reports
