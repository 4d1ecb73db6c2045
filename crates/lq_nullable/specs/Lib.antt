pub mod AddNotNull
pub mod NullableLaws
pub mod DropNotNull
pub mod Nullable
