pub mod Names
pub mod Built
pub mod Checked
pub mod Upgraded
