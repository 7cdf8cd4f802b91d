pub mod Offered
pub mod Continued
pub mod Leading
pub mod Twins
pub mod Followed
pub mod Units
