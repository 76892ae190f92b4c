mod Names
pub mod Arrows
pub mod Boxes
pub mod Rectangles
pub mod Listed
pub mod Once
mod Parts
pub mod Reported
pub mod Texts
