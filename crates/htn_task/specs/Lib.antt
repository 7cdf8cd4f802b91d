pub mod Laws
pub mod Merge
pub mod Literals
pub mod Views
pub mod Formulas
pub mod Numbers
pub mod TaskNumbers
pub mod Fluents
