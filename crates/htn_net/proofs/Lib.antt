pub mod Offered
pub mod Performed
pub mod Spliced
pub mod Finishing
pub mod Numbered
