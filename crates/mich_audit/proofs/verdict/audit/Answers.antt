use Rattle.mich_audit.specs.View.{verdict_seen}
use Rattle.mich_audit.proofs.Pieces.{reached_first, reached_at, none_taken_at, fewer_behind, bound_kept, at_end}
use Rattle.mich_audit.proofs.verdict.audit.Goals as goal

pub lines-init : goal.lines-init
lines-init c = reached_first c.args.bytes.now c.within_limit-rest.result.now c.new-tally.result c.new-tally.ensures c.within_limit-rest.ensures

pub take_piece-requires-clause-tickets : goal.take_piece-requires-clause-tickets
take_piece-requires-clause-tickets c = bound_kept c.args.bytes.now c.lines.rest.now c.lines.tally c.lines.invariant

pub returns-then-not-branch : goal.returns-then-not-branch
returns-then-not-branch c =
    none_taken_at c.args.bytes.now c.lines.rest.now c.lines.tally c.lines.invariant c.take_piece.new.tally c.in-Some.end c.in-Some.ensures c.split_at.result.0.now c.in_ok-take_piece.field-0
    c.split_at.ensures.front c.if-not-branch.true (c.in_ok-take_piece.ensures c.lines.invariant.before c.lines.invariant.told)

pub lines-smaller : goal.lines-smaller
lines-smaller c = fewer_behind c.lines.rest.now c.split_at.result.1.now c.in-Some.end c.in-Some.ensures.0 c.split_at.ensures.back

pub lines-preserved : goal.lines-preserved
lines-preserved c =
    reached_at c.args.bytes.now c.lines.rest.now c.lines.tally c.lines.invariant c.take_piece.new.tally c.in-Some.end c.in-Some.ensures c.split_at.result.0.now c.split_at.result.1.now
    c.in_ok-take_piece.field-0 c.split_at.ensures.front c.split_at.ensures.back c.if-not-branch.false (c.in_ok-take_piece.ensures c.lines.invariant.before c.lines.invariant.told)
