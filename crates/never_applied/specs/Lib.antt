pub mod Solutions
pub mod Used
pub mod Never
pub mod Fine
pub mod Stages
