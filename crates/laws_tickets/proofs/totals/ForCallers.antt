-- What the proofs of the crates above may cite of this crate.
pub use Rattle.laws_tickets.proofs.totals.Alike.{join_amount, same_int, split_amount}
pub use Rattle.laws_tickets.proofs.totals.Amounts.{Balances, balanced_total, burnt_append, burnt_of_burns, discard_balances, equal_balances, in_both, inner_second, minted_append, minted_of_burns, on_append, on_cons, on_one, swapped}
pub use Rattle.laws_tickets.proofs.totals.Arguments.{AllFound, HasAttribute, and_then_both, type_argument_all}
pub use Rattle.laws_tickets.proofs.totals.Kept.{KeepsChange, KeepsStep, agree_append, agree_drop, agree_get, agree_take, change_map, change_then, change_where, keeps_discarding, keeps_same, keeps_wrong, one_for, step_limit, step_some, step_where}
pub use Rattle.laws_tickets.proofs.totals.Literals.{AllRead, IsBare, simple_bare}
pub use Rattle.laws_tickets.proofs.totals.Nothing.{all_fitting_agree, fitting_agrees, nothing_compared, nothing_in, nothing_packed, nothing_pushed}
pub use Rattle.laws_tickets.proofs.totals.Paths.{EntriesLead, LeadsTo, found_leads, leads_well, wrapped_agrees}
pub use Rattle.laws_tickets.proofs.totals.Read.{read_agrees}
pub use Rattle.laws_tickets.proofs.totals.Returned.{issued_cons, returned_amount}
pub use Rattle.laws_tickets.proofs.totals.Rows.{IsFine, IsRule, rule_is}
pub use Rattle.laws_tickets.proofs.totals.Same.{back_agrees, same_agrees, same_kind_true, same_kinds_true}
pub use Rattle.laws_tickets.proofs.totals.Scripts.{outline_typed, script_is}
pub use Rattle.laws_tickets.proofs.totals.Views.{IsViewed, some_is, viewed_is}
