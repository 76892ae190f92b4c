pub mod Lists
pub mod Journaling
