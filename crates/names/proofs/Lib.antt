pub mod Tables
pub mod Suffixes
pub mod Named
pub mod TypedNames
pub mod Pieces
