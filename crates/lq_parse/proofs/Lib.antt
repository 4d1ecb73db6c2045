pub mod Again
pub mod Bounded
pub mod Bytes
pub mod CanWrite
pub mod Chains
pub mod Escapes
pub mod Found
pub mod Fronts
mod InLowerCase
pub mod Kept
pub mod Levels
pub mod Lists
pub mod Magnitudes
pub mod Makes
pub mod Many
pub mod Meaning
pub mod NumberMakes
pub mod Numbers
pub mod Objects
mod PlainInside
pub mod Precedence
pub mod QueryAgain
pub mod QuotedNames
pub mod Quotes
pub mod ReadBack
mod Short
pub mod Spoken
pub mod Steps
pub mod Turns
pub mod Utf8
pub mod WordSteps
pub mod Written
