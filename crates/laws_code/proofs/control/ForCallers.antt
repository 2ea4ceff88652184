-- What the proofs of the crates above may cite of this crate.
pub use Rattle.laws_code.proofs.control.Branches.{fit_drop, fit_length, types_drop}
pub use Rattle.laws_code.proofs.control.Calls.{good_in_lambda}
pub use Rattle.laws_code.proofs.control.Items.{Each, each_element, each_entry, element_amount, entry_amount}
pub use Rattle.laws_code.proofs.control.Mapped.{list_amount, values_above, values_increase}
pub use Rattle.laws_code.proofs.control.Safe.{PartsAreSafe, SafeNodes, act_typer, meanings, safe_eval}
pub use Rattle.laws_code.proofs.control.Typed.{tree_types}
