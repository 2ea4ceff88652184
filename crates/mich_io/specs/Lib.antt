pub use Rattle.rules_text.specs.streams.Causes
pub use Rattle.rules_text.specs.streams.Known
pub mod Handed
pub mod Opened
pub mod Status
