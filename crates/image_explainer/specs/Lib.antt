pub mod SectorBreaking
pub mod SectorFinding
pub mod Breaking
pub mod Finding
pub mod Explained
pub mod Text
