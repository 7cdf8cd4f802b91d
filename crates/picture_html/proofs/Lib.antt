pub mod Covering
pub mod Deeper
pub mod Positions
pub mod Sorting
pub mod Found
mod Linking
mod Chains
mod Counting
mod Stepping
mod Folding
mod OneRuns
mod OnePage
mod ActionRows
mod TameHtml
