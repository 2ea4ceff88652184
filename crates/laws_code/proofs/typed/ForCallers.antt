-- What the proofs of the crates above may cite of this crate.
pub use Rattle.laws_code.proofs.typed.Carried.{FoundHas, IsRead, argument_read, found_then, named_entrypoint}
pub use Rattle.laws_code.proofs.typed.Outlines.{Outlined, contexts, entries_are_types, outlined}
pub use Rattle.laws_code.proofs.typed.TypedData.{RowTypes}
pub use Rattle.laws_code.proofs.typed.TypedRules.{RuledTypes, Taken, rule_taken}
pub use Rattle.laws_code.proofs.typed.Typings.{AllKept, ArrowTypes, EntriesAreTypes, HasTypes, PushedType, Types, TypesKept, any_found, both_types, lambda_read, last_kept, none_kept, one_kept, push_read, two_kept, types_block, types_ends, types_found, types_if, types_join, types_made, types_mapped, types_shift, types_under}
pub use Rattle.laws_code.proofs.typed.ViewBodies.{AllTried, AllTyped, OutlineGood, TypedGood, all_tried, outline_good}
