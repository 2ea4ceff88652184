use Rattle.mich_num.proofs.Shifts.{right_past, right_far, right_near}
use Rattle.mich_num.proofs.integers.shr.Goals as goal

pub returns-then-b-gt-MOST_PLACES : goal.returns-then-b-gt-MOST_PLACES
returns-then-b-gt-MOST_PLACES c = record { exact = right_past c.args.a c.args.b c.ranges.b c.if-b-gt-MOST_PLACES.true }

pub returns-then-b-ge-ALL_PLACES : goal.returns-then-b-ge-ALL_PLACES
returns-then-b-ge-ALL_PLACES c = record {
  exact = right_far c.args.a c.args.b c.ranges.a c.ranges.b c.requires.number c.requires.places c.if-b-gt-MOST_PLACES.false c.if-b-ge-ALL_PLACES.true;
}

pub returns : goal.returns
returns c = record {
  exact = right_near c.args.a c.args.b c.ranges.a c.ranges.b c.requires.number c.requires.places c.if-b-gt-MOST_PLACES.false;
}
