-- What the proofs of the crates above may cite of this crate.
pub use Rattle.mich_instr.proofs.bodies.Leading.{dip_by_leads, dip_leads, if_cons_leads, if_leads, if_left_leads, if_none_leads, iter_leads, leads_seq, loop_leads, loop_left_leads, map_goes, map_leads, next_leads, seq_leads}
pub use Rattle.mich_instr.proofs.bodies.Sayings.{type_is}
