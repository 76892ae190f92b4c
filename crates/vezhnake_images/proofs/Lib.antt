mod Names
pub mod Built
pub mod Devices
pub mod Infos
pub mod Statuses
pub mod Texts
