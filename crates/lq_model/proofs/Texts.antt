-- Worked examples: statements, queries and tests with their texts in both dialects, each computed from the definitions.
pub mod Spell
pub mod Names
pub mod Tables
pub mod Kinds
pub mod Literals
pub mod Columns
pub mod Constraints
pub mod Objects
pub mod Rows
pub mod Tests
pub mod Queries
pub mod Trivia
pub mod Canonical
