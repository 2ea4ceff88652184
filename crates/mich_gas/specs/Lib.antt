pub use Rattle.rules_text.specs.nodes.Tree
pub use Rattle.rules_data.specs.gas.Kinds
pub use Rattle.rules_data.specs.gas.Prices
pub use Rattle.rules_data.specs.gas.Tables
pub mod View
