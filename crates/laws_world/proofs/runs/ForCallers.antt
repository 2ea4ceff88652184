-- What the proofs of the crates above may cite of this crate.
pub use Rattle.laws_world.proofs.runs.Codes.{script_code}
pub use Rattle.laws_world.proofs.runs.Moves.{OnlyMutez, account_balance, burn_moves, fee_moves, implicit_hash, in_order, less_moves, moved_moves, moved_supply, mutez_then, paid_moves, paid_supply}
pub use Rattle.laws_world.proofs.runs.Runs.{runs_end, runs_end_well}
pub use Rattle.laws_world.proofs.runs.Scripts.{IsMet, Searched, address_takes, entry_of_script, met_again, met_more, met_takes, searched}
pub use Rattle.laws_world.proofs.runs.Steps.{kept_moved, kept_then, minted_again, orderly_of, sound_again, told_keeps}
pub use Rattle.laws_world.proofs.runs.Surrounded.{before_amount, held_within, is_met, orderly, stands}
pub use Rattle.laws_world.proofs.runs.Waiting.{emitted_amount, emitted_good, emitted_orders, keeps_charged, operation_good, waiting_positive}
pub use Rattle.laws_world.proofs.runs.Worlds.{IsOrderly, account_holdings, at_itself, contract_length, contract_stores, extends_new, extends_replaced, found_same, held_account, held_contract, none_elsewhere, none_replaced, orderly_account, orderly_contract, orderly_log, set_here, sorted_nothing}
