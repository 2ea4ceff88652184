-- What the proofs of the crates above may cite of this crate.
pub use Rattle.mich_world.proofs.simulation_lemmas.Accounts.{account_held, same_balance}
pub use Rattle.mich_world.proofs.simulation_lemmas.Agreement.{clocks_agree, contracts_agree, credits_agree, debits_agree, grants_agree, installs_agree, keeping_agrees, new_worlds_agree, payments_agree, rates_agree, run_ends_agree, runs_keep_stored}
pub use Rattle.mich_world.proofs.simulation_lemmas.Contracts.{amounts, before_held, length_is, storage_held, stored_are}
pub use Rattle.mich_world.proofs.simulation_lemmas.Opening.{credits_make_accounts}
pub use Rattle.mich_world.proofs.simulation_lemmas.Owners.{hash_of, implicit_of, place_length}
pub use Rattle.mich_world.proofs.simulation_lemmas.Runs.{adds_then, ledgers_run, runs_go_on}
pub use Rattle.mich_world.proofs.simulation_lemmas.Storages.{all_paid, payments_keep_stored}
