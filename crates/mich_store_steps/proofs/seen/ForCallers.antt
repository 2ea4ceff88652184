-- What the proofs of the crates above may cite of this crate.
pub use Rattle.mich_store_steps.proofs.seen.Fitting.{each_entry_plain, each_plain, pushable_seen, simple_plain}
pub use Rattle.mich_store_steps.proofs.seen.Parts.{big_seen, plain_seen, plain_tells}
pub use Rattle.mich_store_steps.proofs.seen.Seen.{Sound, SoundLayer, fits_sound, layer, layer_alike, layer_is, layer_of, sound_based, sound_formed, sound_of, sound_seen}
pub use Rattle.mich_store_steps.proofs.seen.Shown.{entries_tickets, seen_tickets, sight_shows}
