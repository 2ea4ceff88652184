-- What the proofs of the crates above may cite of this crate.
pub use Rattle.laws_typing.proofs.literals_lemmas.Fit.{fit, literals_fit}
pub use Rattle.laws_typing.proofs.literals_lemmas.Forms.{literals_hold_no_ticket}
pub use Rattle.laws_typing.proofs.literals_lemmas.Places.{bodies_stand, size_is}
pub use Rattle.laws_typing.proofs.literals_lemmas.Pushed.{all_pushed, pushed, typing_at}
pub use Rattle.laws_typing.proofs.literals_lemmas.Sizes.{bodies_within}
