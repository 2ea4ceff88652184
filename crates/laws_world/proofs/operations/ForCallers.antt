-- What the proofs of the crates above may cite of this crate.
pub use Rattle.laws_world.proofs.operations.Advances.{turns_grow}
pub use Rattle.laws_world.proofs.operations.AdvancingLevels.{operations_are_new}
pub use Rattle.laws_world.proofs.operations.NewContracts.{fresh_emitted, fresh_made, fresh_next, fresh_step, made_emitted, new_length, take_group}
pub use Rattle.laws_world.proofs.operations.Picks.{numbers_issued, picked, picked_all, picked_new, picks_of}
