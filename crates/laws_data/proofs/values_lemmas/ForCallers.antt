-- What the proofs of the crates above may cite of this crate.
pub use Rattle.laws_data.proofs.values_lemmas.Again.{again}
pub use Rattle.laws_data.proofs.values_lemmas.Lawful.{order_lawful}
pub use Rattle.laws_data.proofs.values_lemmas.Orders.{first_equal, first_true, same_truth, then_equal, then_true}
