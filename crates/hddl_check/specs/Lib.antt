pub mod TextParts
pub mod Cycles
pub mod Faults
