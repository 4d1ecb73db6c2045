pub mod Lower
pub mod FrontSpaces
