-- What the proofs of the crates above may cite of this crate.
pub use Rattle.mich_world.proofs.Agreeing.{balance_is, balance_or_none_is, fees_agree, less_is, moves_agree, total_is}
pub use Rattle.mich_world.proofs.Marks.{ledger_lent, same_keeps, store_lent, undone_is, world_same, world_trans}
pub use Rattle.mich_world.proofs.Moves.{contracts_there}
pub use Rattle.mich_world.proofs.Seen.{seen_changed, seen_insert, seen_lookup, written_over}
