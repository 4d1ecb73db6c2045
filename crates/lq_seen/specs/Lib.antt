-- A changeset of a changelog as the commands see it.
pub mod View
pub mod Telling
