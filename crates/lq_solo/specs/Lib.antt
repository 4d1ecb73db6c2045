pub mod Solo
