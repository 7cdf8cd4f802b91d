pub mod Refusing
pub mod OneAnswer
mod ListedFirst
mod Exists
mod Decided
mod Detailed
mod TextLines
mod DecidedLines
mod DecidedRoom
mod SomeVerdict
mod OwnWords
mod SpelledNames
mod NamedTasks
pub mod OneVerdict
mod ValidPlans
pub mod Judging
pub mod Sighting
mod ShownWords
mod ExplainedTexts
