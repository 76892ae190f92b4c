pub mod Table
pub mod Texts
pub mod Entries
pub mod Refused
pub mod Output
pub mod Numbered
