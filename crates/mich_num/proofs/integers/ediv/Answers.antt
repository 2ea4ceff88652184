use Rattle.std.proofs.Common.{rules}
use Rattle.mich_num.proofs.Divisions.{by_zero, past_limit, whole_division, only_division}
use Rattle.mich_num.proofs.integers.ediv.Goals as goal

pub returns-then-b-eq0-clause-exact : goal.returns-then-b-eq0-clause-exact
returns-then-b-eq0-clause-exact c = by_zero c.args.a c.args.b c.ranges.b c.if-b-eq0.true

pub returns-then-b-eqminus1-clause-exact : goal.returns-then-b-eqminus1-clause-exact
returns-then-b-eqminus1-clause-exact c =
    past_limit c.args.a c.args.b c.ranges.a c.ranges.b c.if-a-eq-LEAST.true c.if-b-eqminus1.true

pub returns-clause-exact : goal.returns-clause-exact
returns-clause-exact c =
    whole_division c.args.a c.args.b c.div_euclid.result c.rem_euclid.result c.ranges.a c.ranges.b (search rules) (search rules) c.if-b-eq0.false c.div_euclid.ensures c.rem_euclid.ensures.value

pub returns-clause-divides : goal.returns-clause-divides
returns-clause-divides c =
    only_division c.args.a c.args.b c.div_euclid.result c.rem_euclid.result c.ranges.a c.ranges.b (search rules) (search rules) c.if-b-eq0.false c.div_euclid.ensures c.rem_euclid.ensures.value
