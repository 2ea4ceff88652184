use Rattle.std.proofs.Common.{sym, ap, ◌∙◌, arith}
use Rattle.std.specs.Prelude.{◌&&◌, pos, ◌≤ℤ◌, unsigned_abs}
use Rattle.std.specs.Ordering.{int_eq}
use Rattle.std.proofs.lemmas.Int.{ints, to_z-of_z}
use Rattle.mich_term.specs.TicketView.{identity}
use Rattle.mich_snapshot.proofs.Counts.{is_amount, is_there, not_there}
use Rattle.mich_snapshot.proofs.sums.Sums.is.Goals as goal

pub returns-then-amount-ge0 : goal.returns-then-amount-ge0
returns-then-amount-ge0 c = λ s found h.
    let id = c.args.id.now in
    let there = is_there s found id c.args.self.now.found.entries c.in-Some.sum.now h (sym c.in-Some.ensures.value) in
    let positive : pos 0 ≤ℤ c.args.amount = omega (arith, ints) in
    is_amount (found (identity id)) c.in-Some.sum.now c.unsigned_abs.result c.args.amount there.1 positive c.ranges.amount
    (c.unsigned_abs.ensures.value ∙ ap unsigned_abs (to_z-of_z _ _ c.ranges.amount))
    ∙ ap (λ b. b && int_eq (pos (found (identity id))) c.args.amount) (sym there.0)

pub returns-in-None : goal.returns-in-None
returns-in-None c = λ s found h.
    let lacks = not_there s found c.args.id.now c.args.self.now.found.entries h (sym c.in-None.ensures.value) in
    ap (λ b. b && int_eq (pos (found (identity c.args.id.now))) c.args.amount) (sym lacks)
