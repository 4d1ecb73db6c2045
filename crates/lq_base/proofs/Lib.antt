pub mod BesideLemmas
mod DayLemmas
mod DigitLemmas
mod IntoLemmas
pub mod KindSpelled
pub mod MomentLemmas
pub mod MomentSpelled
pub mod NameLemmas
mod NumberLemmas
pub mod NumberPrinted
pub mod NumberSpelled
mod PlainLemmas
pub mod ReadLemmas
pub mod SpacedLemmas
mod SplitLemmas
mod TextLemmas
pub mod ValueLemmas
