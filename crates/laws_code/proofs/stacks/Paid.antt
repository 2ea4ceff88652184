-- Promises behind a charge, and on other stacks.
use Rattle.std.proofs.Common.{ℕ, Bool, true, false, List, ◌∷◌, pos, arith}
use Rattle.std.specs.Prelude.{◌≤ℤ◌, nat_le}
use Rattle.std.proofs.lemmas.Int.{ints}
use Rattle.rules_data.specs.declared.gas.Kind.{Kind as Priced}
use Rattle.rules_data.specs.gas.Prices.{Listed, cost}
use Rattle.rules_data.specs.types.Kind.{Kind}
use Rattle.rules_data.specs.values.Val.{Val}
use Rattle.rules_data.specs.values.Tickets.{Identity}
use Rattle.rules_code.specs.steps.Changes.{Change, amount_in}
use Rattle.rules_code.specs.typing.Typing.{Typing}
use Rattle.rules_code.specs.typing.Fits.{AllFit}
use Rattle.rules_code.specs.evaluation.Operations.{Issued, Tally}
use Rattle.rules_code.specs.evaluation.Outcome.{Outcome, with_gas, charge}
use Rattle.laws_code.specs.evaluation.Laws.{known, amount_on}
use Rattle.laws_code.specs.stacks.Sound.{Seen, AllTypes, total, Sound, KeepsFrom}
use Rattle.laws_code.proofs.stacks.Amounts.{positive}
use Rattle.laws_code.proofs.stacks.Kept.{keeps_failed, keeps_from}

-- ---- gas and blocks

module _ (e : Seen) (m : Tally) (V : List Val) (t : Typing) where
  keeps_gas : (b : Bool) (c : ℕ) (go : Tally → Outcome) → ((g : ℕ) →
      KeepsFrom e m.issued m.changes V t (go (record m { gas = g }))) → KeepsFrom e m.issued m.changes V t (with_gas b c m go)
  keeps_gas true c go k = k _
  keeps_gas false c go k = keeps_failed e m.issued m.changes V t _

  pub keeps_charge : (prices : Listed) (kind : Priced) (weight : ℕ) (go : Tally → Outcome) →
      ((g : ℕ) → KeepsFrom e m.issued m.changes V t (go (record m { gas = g }))) →
      KeepsFrom e m.issued m.changes V t (charge prices kind weight m go)
  keeps_charge prices kind weight go k = keeps_gas (nat_le (cost prices kind weight) m.gas) (cost prices kind weight) go k

-- ---- other stacks in the same run

pub sound_with : {e : Seen} {is : List Issued} {cs : List Change} (A B : List Kind) (V W : List Val) → Sound e is cs A V →
    AllTypes B → AllFit (known e.contract_at is) B W →
    ((id : Identity) → amount_on id W ≤ℤ amount_on id V) → Sound e is cs B W
sound_with {e = e} {cs = cs} A B V W s ts f le = record {
  types = ts;
  fit = f;
  below = λ id. let h : amount_on id V ≤ℤ total e cs id = s.below id in let i : amount_on id W ≤ℤ amount_on id V = le id in
      omega (arith, ints);
  most = s.most;
  mints = s.mints;
}

module _ (e : Seen) (is : List Issued) (cs : List Change) (a : Kind) (A : List Kind) (x : Val) (V : List Val)
    (s : Sound e is cs (a ∷ A) (x ∷ V)) where
  pub fewer : (id : Identity) → amount_on id V ≤ℤ amount_on id (x ∷ V)
  fewer id = let h : pos 0 ≤ℤ amount_in id x = positive id (known e.contract_at is) a x s.fit.0 in omega (arith, ints)

  -- without its top
  pub sound_pop : Sound e is cs A V
  sound_pop = sound_with (a ∷ A) A (x ∷ V) V s s.types.1 s.fit.1 fewer

  pub keeps_pop : (t : Typing) (o : Outcome) → KeepsFrom e is cs V t o → KeepsFrom e is cs (x ∷ V) t o
  keeps_pop t o k = keeps_from e is cs V (x ∷ V) t o fewer k
