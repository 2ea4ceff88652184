-- What the proofs of the crates above may cite of this crate.
pub use Rattle.laws_tickets.proofs.held.Collections.{IsMade, elements_fit, entries_fit, list_made, none_made, some_made, table_made}
pub use Rattle.laws_tickets.proofs.held.Nodes.{Leaves, node_leaves, node_sound, on_same}
pub use Rattle.laws_tickets.proofs.held.Values.{all_one_grow, all_one_last, one_kind_positive, split_amount, take_fit, take_types}
