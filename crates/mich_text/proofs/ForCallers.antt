-- What the proofs of the crates above may cite of this crate.
pub use Rattle.mich_text.proofs.grammar.Fronts.{step_ok}
pub use Rattle.mich_text.proofs.grammar.Signs.{no_inner}
pub use Rattle.mich_text.proofs.grammar.Sizes.{stands_fits}
pub use Rattle.mich_text.proofs.grammar.Whole.{NoStatement, statement_within, still_none}
pub use Rattle.mich_text.proofs.limits.Alone.{no_sign}
pub use Rattle.mich_text.proofs.limits.Conditions.{too_deep_cut, too_deep_kept, unexpected_cut, unexpected_kept}
pub use Rattle.mich_text.proofs.limits.Limited.{closed_rest, split}
pub use Rattle.mich_text.proofs.limits.Limits.{kept_fault, kept_node, long_end, long_file, long_late, long_open, open_tells, unlimited, up_to}
pub use Rattle.mich_text.proofs.limits.OneReading.{no_fault_at_end, no_fault_at_node, no_node_at_end, one_fault}
pub use Rattle.mich_text.proofs.limits.Past.{none_closed}
pub use Rattle.mich_text.proofs.limits.Places.{limited_within}
pub use Rattle.mich_text.proofs.limits.Unlimited.{end_same, node_same}
pub use Rattle.mich_text.proofs.printed.WrittenLines.{can_be_written, line_bare, line_stands, written_again, written_in_line}
pub use Rattle.mich_text.proofs.readings.AtEnd.{nothing_here, open_at_end, unclosed_node}
pub use Rattle.mich_text.proofs.readings.Closed.{cut_rest, ends_kept, sign_rest, stands_cut, stands_kept}
pub use Rattle.mich_text.proofs.readings.Comments.{comment_behind, comment_first}
pub use Rattle.mich_text.proofs.readings.Fed.{leads_on}
pub use Rattle.mich_text.proofs.readings.Loop.{begun, refuses}
pub use Rattle.mich_text.proofs.readings.Places.{holds_within, stands_within}
pub use Rattle.mich_text.proofs.readings.Reading.{At, From, compare, same_rest}
pub use Rattle.mich_text.proofs.readings.Steps.{bad_char, own_flaw, refused_place}
pub use Rattle.mich_text.proofs.readings.Unique.{no_statement_at_end, one_statement}
pub use Rattle.mich_text.proofs.readings.Verdict.{at_next, closed_node}
pub use Rattle.mich_text.proofs.tokens.Ahead.{flaw_le, leads_le, no_token, token_shorter}
pub use Rattle.mich_text.proofs.tokens.Cut.{leads_cut}
pub use Rattle.mich_text.proofs.tokens.Gaps.{gap_cut, gap_le}
pub use Rattle.mich_text.proofs.tokens.Read.{okay_is}
pub use Rattle.mich_text.proofs.tokens.Shapes.{token_shape_is}
pub use Rattle.mich_text.proofs.tokens.Suffix.{leads_end}
