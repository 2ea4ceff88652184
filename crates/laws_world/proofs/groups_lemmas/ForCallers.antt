-- What the proofs of the crates above may cite of this crate.
pub use Rattle.laws_world.proofs.groups_lemmas.Accounts.{IsReceived, account_changed}
pub use Rattle.laws_world.proofs.groups_lemmas.Calls.{called_call, run_called}
pub use Rattle.laws_world.proofs.groups_lemmas.Chains.{grants_keep_good, groups_keep_whole, new_worlds_are_good}
pub use Rattle.laws_world.proofs.groups_lemmas.Gives.{IsOffered, offered_is}
pub use Rattle.laws_world.proofs.groups_lemmas.Groups.{fees_going, fees_there, groups_conserve_mutez, groups_settle, setting}
pub use Rattle.laws_world.proofs.groups_lemmas.Taken.{taken_on, taken_order, taken_transfer}
pub use Rattle.laws_world.proofs.groups_lemmas.Walks.{KeepsWalk, apply_keeps, begins, tree_keeps}
