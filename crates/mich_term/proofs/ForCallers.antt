-- What the proofs of the crates above may cite of this crate.
pub use Rattle.mich_term.proofs.Comparable.{datum_comparable}
pub use Rattle.mich_term.proofs.Each
pub use Rattle.mich_term.proofs.Each.{of_ticket}
pub use Rattle.mich_term.proofs.Ends.{by_lawful, put_last, table_step, with_last}
pub use Rattle.mich_term.proofs.Faithful.{datum_faithful}
pub use Rattle.mich_term.proofs.Held.{both_nothing, carries_none, none_in_entries, or_parts}
pub use Rattle.mich_term.proofs.OrderLaws.{equal}
pub use Rattle.mich_term.proofs.Overlays.{big_is, table_is}
