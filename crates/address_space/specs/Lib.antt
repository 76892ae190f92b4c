pub use Rattle.capability.specs.Parts
pub use Rattle.model.specs.Walk
pub use Rattle.model.specs.Step
pub mod Reaches
pub mod References
