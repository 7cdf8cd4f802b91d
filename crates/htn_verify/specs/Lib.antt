pub mod Tasks
pub mod Named
pub mod Instances
pub mod Faults
pub mod Runs
pub mod Verdicts
pub mod Placed
pub mod Rooms
