pub mod OnOk
pub mod Right
