pub mod Defaults
pub mod Made
pub mod KeyMade
pub mod Joined
pub mod Whole
pub mod Effects
pub mod Fresh
pub mod Apart
