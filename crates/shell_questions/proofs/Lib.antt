pub mod TypedWords
