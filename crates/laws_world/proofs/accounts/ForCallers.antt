-- What the proofs of the crates above may cite of this crate.
pub use Rattle.laws_world.proofs.accounts.Amounts.{among_positive, burnt_append, burnt_positive, in_both, in_positive, minted_append, minted_positive, ticket_positive}
pub use Rattle.laws_world.proofs.accounts.Entries.{all_found, all_in, all_insert, lookup_insert, one_in, sorted_insert, sum_insert}
pub use Rattle.laws_world.proofs.accounts.Environments.{environment_good}
pub use Rattle.laws_world.proofs.accounts.Holdings.{AreHoldings, credited_held, debited_held, held_positive, with_amount_form}
pub use Rattle.laws_world.proofs.accounts.Identities.{alike_equal, equal_of, identity_total}
pub use Rattle.laws_world.proofs.accounts.KindTexts.{texts_tell_types}
pub use Rattle.laws_world.proofs.accounts.More.{Extends, all_waiting_more, contract_good_more, extends_trans, fits_in_more, operation_more, stores_more}
pub use Rattle.laws_world.proofs.accounts.Mutez.{InOrder, IsOwner, account_supply, burns_conserve, contract_balance, contract_supply, fees_conserve, grants_add_mutez, less_supply, more_supply, nobody, set_balance}
pub use Rattle.laws_world.proofs.accounts.ReadLiterals.{compared_fits, literal_empty, literal_fits}
