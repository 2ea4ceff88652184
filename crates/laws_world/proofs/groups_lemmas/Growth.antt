-- What is burnt for the growth of a contract.
use Rattle.std.proofs.Common.{◌≡◌, ◌≤◌, ℕ, List, ◌∷◌, ◌++◌, Bool, true, false, Some, None, refl, ◌∙◌, ℤ, pos, ◌+ℤ◌, arith}
use Rattle.std.specs.Prelude.{nat_lt}
use Rattle.std.specs.declared.option.Option.{Option}
use Rattle.std.proofs.lemmas.Int.{ints}
use Rattle.std.proofs.lemmas.Bool.{ltb-false}
use Rattle.rules_data.specs.forms.Spelling.{implicit_place}
use Rattle.rules_world.specs.world.World.{World}
use Rattle.rules_world.specs.world.Balances.{supply, balance_or_none}
use Rattle.rules_world.specs.world.Holdings.{held}
use Rattle.rules_world.specs.world.Outcomes.{Setting, Waiting, Counts, Success, Outcome, applied, failed, stuck}
use Rattle.rules_world.specs.world.Growth.{Burn, burn_of, paid_for, burnt_from, with_burn, unless_short, burning, growing}
use Rattle.laws_world.specs.runs.Going.{IsGoing, KeepsGoing}
use Rattle.laws_world.proofs.accounts.ForCallers.{burns_conserve}
use Rattle.laws_world.proofs.runs.ForCallers.{OnlyMutez, mutez_then, burn_moves, paid_moves, paid_supply, in_order, IsOrderly, orderly_of}
use Rattle.laws_world.proofs.groups_lemmas.Taken.{IsTaken, taken_going, taken_held}

-- all mutez are still there, and nothing else has moved
module _ (w : World) (payer hash : List ℕ) (b : Burn) (o : IsOrderly w) (enough : b.mutez ≤ balance_or_none w payer) where
  abbrev x : World
  x = burnt_from w payer b.mutez

  burnt : OnlyMutez w x
  burnt = burn_moves w payer b.mutez o

  pub grown_moves : OnlyMutez w (paid_for x hash b.bytes)
  grown_moves = mutez_then w x (paid_for x hash b.bytes) burnt (paid_moves x hash b.bytes burnt.orderly)

  pub grown_supply : supply (paid_for x hash b.bytes) ≡ supply w
  grown_supply = paid_supply x hash b.bytes burnt.orderly ∙ burns_conserve w payer b.mutez (in_order w o) enough

module _ (start : World) (s : Setting) (contents : ℕ) where
  nothing_over : (h x : ℤ) → x ≡ h → x ≡ h +ℤ pos 0
  nothing_over h x e = omega (arith, ints, e)

  going_on : (w x : World) (waiting : List Waiting) (counts : Counts) → IsGoing start s.group contents w waiting counts →
      OnlyMutez w x → supply x ≡ supply w → IsGoing start s.group contents x waiting counts
  going_on w x waiting counts g m mutez =
      taken_held start s.group contents w waiting counts (λ id. pos 0) x (taken_going start s.group contents w waiting counts g)
      m.orderly m.more m.none m.log m.granted mutez (λ id. nothing_over (held w id) (held x id) (m.held id))

  -- an operation that keeps what holds between operations does so with the growth behind it
  pub growing_keeps : (hash : List ℕ) (waiting : List Waiting) (o : Outcome) → KeepsGoing start s contents waiting o →
      KeepsGoing start s contents waiting (growing s hash o)
  growing_keeps hash waiting (applied a) g = by (burn_of a.world hash)
    where
      paid : (b : Burn) (q : Bool) → nat_lt (balance_or_none a.world (implicit_place s.source)) b.mutez ≡ q →
          KeepsGoing start s contents waiting (unless_short q (implicit_place s.source) hash b a)
      paid b true e = tt
      paid b false e =
          let o = orderly_of a.world g.good.sound in
          let enough : b.mutez ≤ balance_or_none a.world (implicit_place s.source) =
          ltb-false (balance_or_none a.world (implicit_place s.source)) b.mutez e in
          going_on a.world (paid_for (burnt_from a.world (implicit_place s.source) b.mutez) hash b.bytes) (a.emitted ++ waiting)
          a.counts g (grown_moves a.world (implicit_place s.source) hash b o enough)
          (grown_supply a.world (implicit_place s.source) hash b o enough)

      by : (b : Option Burn) → KeepsGoing start s contents waiting (burning b (implicit_place s.source) hash a)
      by None = g
      by (Some b) = paid b (nat_lt (balance_or_none a.world (implicit_place s.source)) b.mutez) refl
  growing_keeps hash waiting (failed failure) g = tt
  growing_keeps hash waiting stuck g = g
