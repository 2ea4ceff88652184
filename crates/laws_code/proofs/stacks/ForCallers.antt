-- What the proofs of the crates above may cite of this crate.
pub use Rattle.laws_code.proofs.stacks.Addresses.{GivesContract, address_place, contract_gives, default_is, name_back, place_back, spelled_is, take_front, taken_there}
pub use Rattle.laws_code.proofs.stacks.Amounts.{entries_positive, on-append, on_positive, positive}
pub use Rattle.laws_code.proofs.stacks.Grow.{Knows, all_grow, all_have, entries_have, fits_grow, fits_packed}
pub use Rattle.laws_code.proofs.stacks.Identities.{alike_is, alike_itself, comparable_value}
pub use Rattle.laws_code.proofs.stacks.Kept.{after_still, ends_shift, fit-append, keeps_apart, keeps_end, keeps_ends, keeps_failed, keeps_first, keeps_from, keeps_in_block, keeps_leads, keeps_second, keeps_shift, keeps_under, knows_grow, sound_after}
pub use Rattle.laws_code.proofs.stacks.Nothing.{all_nothing, comparable_duplicable, no_amount, no_amount_compared, nothing_and, nothing_in, packable_duplicable, pairs_nothing, pushable_duplicable, simple_none}
pub use Rattle.laws_code.proofs.stacks.Paid.{keeps_charge, sound_pop, sound_with}
pub use Rattle.laws_code.proofs.stacks.Parts.{bool_type, safe_list, safe_option, safe_truth, safe_union, type_argument, type_element, type_entry, type_first, type_left, type_list, type_option, type_result, type_right}
pub use Rattle.laws_code.proofs.stacks.Wells.{one_good, stack_good, taken_good, tickets_good}
