-- What the proofs of the crates above may cite of this crate.
pub use Rattle.mich_control.proofs.Branches.{branch_join, branch_made, branch_one, branch_other}
pub use Rattle.mich_control.proofs.DipTyping.{dip_body, dip_made, dip_read}
pub use Rattle.mich_control.proofs.Forms.{formed}
pub use Rattle.mich_control.proofs.LambdaTyping.{lambda_begun, lambda_body, lambda_is, lambda_types}
pub use Rattle.mich_control.proofs.Loops.{ended_leads, loop_behind, loop_body, loop_other}
pub use Rattle.mich_control.proofs.MapTyping.{map_body, map_made}
pub use Rattle.mich_control.proofs.Read.{found_typing, read_as}
pub use Rattle.mich_control.proofs.Shifts.{bad_here, fault_is, seq_at, shift_shift, unshift}
pub use Rattle.mich_control.proofs.Views.{code_create, code_seq, storage_kind, tree_seq}
