mod OnOk
pub mod Right
