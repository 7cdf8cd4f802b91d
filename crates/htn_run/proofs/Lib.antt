mod Saying
mod Stopping
mod FileReads
mod Reporting
mod ErrorLines
mod After
mod Watching
mod Quiet
pub mod Unasked
