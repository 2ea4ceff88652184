-- What the proofs of the crates above may cite of this crate.
pub use Rattle.mich_frames.proofs.Branches.{dip_broke, dip_opens, dip_top, if_broke, if_cons_broke, if_cons_opens, if_cons_top, if_empty_broke, if_empty_opens, if_left_broke, if_left_opens, if_left_top, if_none_broke, if_none_opens, if_none_top, if_opens, if_right_broke, if_right_opens, if_some_broke, if_some_opens, if_top, seq_opens}
pub use Rattle.mich_frames.proofs.Calls.{apply_acts, apply_broke, apply_deep, apply_large, apply_top, exec_broke, exec_opens, exec_top, exec_typed, fail_acts, fail_broke, fail_top, never_meets}
pub use Rattle.mich_frames.proofs.Creating.{create_acts, create_broke, create_over, create_top}
pub use Rattle.mich_frames.proofs.Ends.{all_done, call_ends, enters, meets_next, rest_depth, rest_ends, starts, too_deep, under_ends, view_ends, view_top}
pub use Rattle.mich_frames.proofs.Fine.{lambda_below, sound_here, stock_positive}
pub use Rattle.mich_frames.proofs.Given.{lambda_acts, lambda_broke, push_acts, push_broke, push_holds, push_pushable, push_reads, self_acts, self_broke}
pub use Rattle.mich_frames.proofs.Items.{each_broke, each_end, each_opens, iter_acts, iter_broke, iter_top}
pub use Rattle.mich_frames.proofs.Loops.{left_turn_opens, left_turns_broke, left_turns_end, left_turns_top, loop_acts, loop_broke, loop_left_acts, loop_left_broke, loop_left_top, loop_right_acts, loop_right_broke, loop_top, turn_opens, turns_broke, turns_end, turns_top}
pub use Rattle.mich_frames.proofs.Made.{Case, FineCase, form_is, meets_by, meets_fine}
pub use Rattle.mich_frames.proofs.Mapping.{making_ends, making_top, map_acts, map_broke, map_top, mapping_broke, mapping_end, mapping_opens}
pub use Rattle.mich_frames.proofs.Operations.{emit_acts, emit_over, emit_top, place_acts, transfer_acts, transfer_over, transfer_top, view_none, view_opens, viewing_top}
pub use Rattle.mich_frames.proofs.Remapped.{AreAlike, remap}
pub use Rattle.mich_frames.proofs.Shapes.{holds}
pub use Rattle.mich_frames.proofs.Sizes.{frame_counts, seq_counts}
pub use Rattle.mich_frames.proofs.Straights.{row_acts, row_broke, row_fails, row_sound}
pub use Rattle.mich_frames.proofs.Taking.{row_taken}
pub use Rattle.mich_frames.proofs.Views.{views_agree}
