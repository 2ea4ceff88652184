-- Charges that were paid.
use Rattle.std.proofs.Common.{◌≡◌, ◌≤◌, ◌<◌, ◌+◌, ◌*◌, ◌-◌, ℕ, List, sym, subst, arith}
use Rattle.rules_data.specs.declared.gas.Kind.{Kind as Priced}
use Rattle.rules_data.specs.gas.Prices.{Listed, cost, price_of}
use Rattle.rules_data.specs.types.Kind.{Kind}
use Rattle.rules_data.specs.values.Val.{Val}
use Rattle.rules_code.specs.evaluation.Operations.{Tally}
use Rattle.rules_code.specs.evaluation.Outcome.{Outcome}
use Rattle.laws_code.specs.evaluation.Laws.{IsCharged}
use Rattle.mich_instr.specs.Code.{Codes}
use Rattle.mich_frames.specs.Around.{Around, less}
use Rattle.mich_frames.specs.Frames.{Frame}
use Rattle.mich_frames.specs.Stands.{StandsAt, OpensAt}
use Rattle.mich_interpreter.specs.Ends.{Spends, Turns}
use Rattle.mich_interpreter.specs.declared.act.Act.{Act}
use Rattle.mich_interpreter.specs.declared.act.Act.TheVariants as a

some_less : (base more old new : ℕ) → 1 ≤ base → base + more ≤ old → new ≡ old - (base + more) → new < old
some_less base more old new one le e = omega (arith, one, le, e)

pub paid_less : (p : Listed) (kind : Priced) (w : ℕ) (old new : ℕ) → IsCharged p → cost p kind w ≤ old → new ≡ old - cost p kind w → new < old
paid_less p kind w old new charged le e =
    some_less (price_of p kind).base ((price_of p kind).coefficient * w) old new (charged kind) le e

module _ (kind : Priced) (w : ℕ) {fs : List Frame} {u : Around} {V : List Val} {d : ℕ} {Z : List Kind} {o : Outcome} where
  pub stands_paid : (m : Tally) (g : ℕ) → g ≡ m.gas - cost u.prices kind w → StandsAt fs u V (less u kind w m) d Z o →
      StandsAt fs u V (record m { gas = g }) d Z o
  stands_paid m g e h = subst (λ x. StandsAt fs u V (record m { gas = x }) d Z o) (sym e) h

  pub opens_paid : {is : Codes} (m : Tally) (g : ℕ) → g ≡ m.gas - cost u.prices kind w → OpensAt is fs u V (less u kind w m) d Z o →
      OpensAt is fs u V (record m { gas = g }) d Z o
  opens_paid {is = is} m g e h = subst (λ x. OpensAt is fs u V (record m { gas = x }) d Z o) (sym e) h

-- a charge, and then what may cost more
pub turns_spend : (old mid new : ℕ) (act : Act) → mid < old → Turns act mid new → Spends act old new
turns_spend old mid new a.On lt e = omega (arith, lt, e)
turns_spend old mid new (a.Open below body) lt e = omega (arith, lt, e)
turns_spend old mid new (a.View w) lt e = absurd e
turns_spend old mid new (a.Failed why) lt e = tt
