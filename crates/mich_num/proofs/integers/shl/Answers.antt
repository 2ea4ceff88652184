use Rattle.std.proofs.Common.{◌∙◌}
use Rattle.mich_num.proofs.Shifts.{left_past, left_zero, left_far, left_near}
use Rattle.mich_num.proofs.integers.shl.Goals as goal

pub returns-then-b-gt-MOST_PLACES : goal.returns-then-b-gt-MOST_PLACES
returns-then-b-gt-MOST_PLACES c = record { exact = left_past c.args.a c.args.b c.ranges.b c.if-b-gt-MOST_PLACES.true }

pub returns-then-a-eq0 : goal.returns-then-a-eq0
returns-then-a-eq0 c = record {
  exact = left_zero c.args.a c.args.b c.ranges.b c.if-b-gt-MOST_PLACES.false c.ranges.a c.if-a-eq0.true;
}

pub returns-then-b-ge-ALL_PLACES : goal.returns-then-b-ge-ALL_PLACES
returns-then-b-ge-ALL_PLACES c = record {
  exact = left_far c.args.a c.args.b c.ranges.b c.requires.number c.requires.places c.if-b-gt-MOST_PLACES.false c.if-a-eq0.false c.if-b-ge-ALL_PLACES.true;
}

pub returns : goal.returns
returns c = record {
  exact = c.mul.ensures.exact ∙ left_near c.args.a c.args.b c.ranges.a c.ranges.b c.requires.places c.if-b-gt-MOST_PLACES.false c.if-b-ge-ALL_PLACES.false;
}
