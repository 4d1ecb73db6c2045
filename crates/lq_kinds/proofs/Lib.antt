mod EachChange
pub mod Right
