-- What the proofs of the crates above may cite of this crate.
pub use Rattle.mich_base.proofs.undo_lemmas.Backs.{back_none, changed_back, changed_is_set, changed_none}
pub use Rattle.mich_base.proofs.undo_lemmas.Histories.{keeps_equal, keeps_same, keeps_to, keeps_trans, rewound_here, rewound_step, rewound_twice}
