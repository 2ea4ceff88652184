-- What the proofs of the crates above may cite of this crate.
pub use Rattle.mich_bigmap.proofs.Extending.{extends_same}
pub use Rattle.mich_bigmap.proofs.Kept.{has_append, notes_append}
pub use Rattle.mich_bigmap.proofs.Keys.{by_lawful}
pub use Rattle.mich_bigmap.proofs.Meaning.{found_over, none_in, none_sorted}
pub use Rattle.mich_bigmap.proofs.Named.{kept_based}
pub use Rattle.mich_bigmap.proofs.Plain.{alone_is, big_val_is, none_in_store, none_with, none_without, nothing_of, tickets_in_store}
pub use Rattle.mich_bigmap.proofs.Settled.{based_later, extends_trans, val_later}
pub use Rattle.mich_bigmap.proofs.Staying.{agree, each_both, each_more, equals}
