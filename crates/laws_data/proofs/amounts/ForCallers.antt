-- What the proofs of the crates above may cite of this crate.
pub use Rattle.laws_data.proofs.amounts.Maps.{OptionHas, amount_held_in, amount_if, value_has, with_amount, with_entries, with_increasing, without_amount, without_entries, without_increasing}
pub use Rattle.laws_data.proofs.amounts.Sums.{among_append}
