pub mod Bits
pub mod Compiled
pub mod Numberings
pub mod StandFor
pub mod Table
