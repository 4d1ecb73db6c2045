-- What a command decides before it runs.
pub mod Told
