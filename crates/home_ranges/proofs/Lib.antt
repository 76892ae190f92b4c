mod Names
pub mod Places
pub mod Filling
pub mod FrameSlots
pub mod LaidAgain
mod LaidPlans
mod Laying
pub mod Units
