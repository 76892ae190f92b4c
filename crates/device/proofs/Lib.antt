pub mod Flat
pub mod Images
pub mod Moments
