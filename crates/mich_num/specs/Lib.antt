pub use Rattle.rules_data.specs.numbers.Bits
pub use Rattle.rules_data.specs.numbers.Integers
pub use Rattle.rules_data.specs.numbers.Limits
pub use Rattle.rules_data.specs.numbers.Mutez
pub mod View
