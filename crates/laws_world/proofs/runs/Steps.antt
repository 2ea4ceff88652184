-- How what holds of a world goes on to hold after an operation; events.
use Rattle.std.proofs.Common.{◌≡◌, ◌-◌, ◌^◌, ℕ, List, [], ◌∷◌, ap, ℤ, pos, ◌+ℤ◌, ◌≤ℤ◌, arith, ◌∙◌, None}
use Rattle.std.proofs.lemmas.Int.{ints}
use Rattle.std.proofs.lemmas.List.Elements.{All-head, All-tail}
use Rattle.rules_data.specs.types.Kind.{Kind}
use Rattle.rules_data.specs.values.Val.{Val}
use Rattle.rules_data.specs.values.Tickets.{Identity, tickets}
use Rattle.rules_code.specs.steps.Changes.{amount_among}
use Rattle.rules_code.specs.evaluation.Operations.{event}
use Rattle.rules_world.specs.world.World.{World, contract_at}
use Rattle.rules_world.specs.world.Balances.{supply}
use Rattle.rules_world.specs.world.Holdings.{held, minted_ever}
use Rattle.rules_world.specs.world.Outcomes.{Setting, Waiting, issued, Counts}
use Rattle.rules_world.specs.world.Application.{told}
use Rattle.rules_world.specs.world.Good.{known_with, IsSound, IsGoodWaiting, amount_waiting}
use Rattle.laws_world.specs.runs.Going.{IsKept, IsGoing, KeepsGoing}
use Rattle.laws_world.proofs.runs.Waiting.{pushed_none}
use Rattle.laws_world.proofs.runs.Worlds.{IsOrderly}

pub orderly_of : (w : World) → IsSound w → IsOrderly w
orderly_of w s = record { form = s.form; contracts = s.contracts }

-- a world in its form with as much mutez as before is sound, if its minted totals are ints
pub sound_again : (w x : World) → IsSound w → IsOrderly x → ((id : Identity) → minted_ever x id ≤ℤ pos (2 ^ 127 - 1)) →
    supply x ≡ supply w → IsSound x
sound_again w x s o m e = record { form = o.form; contracts = o.contracts; minted = m; mutez = omega (arith, s.mutez, e) }

-- the log is as it was
pub minted_again : (w x : World) → IsSound w → x.log ≡ w.log → (id : Identity) → minted_ever x id ≤ℤ pos (2 ^ 127 - 1)
minted_again w x s e id = rw e (s.minted id)

nothing_before : (h z a b : ℤ) → z ≡ pos 0 → h +ℤ (z +ℤ a) ≡ b → h +ℤ a ≡ b
nothing_before h z a b e g = omega (arith, ints, e, g)

-- one part after another
pub kept_then : (group : ℕ) (start w x : World) → IsKept group start w → IsKept group w x → IsKept group start x
kept_then group start w x f g = record {
  mutez = g.mutez ∙ f.mutez;
  granted = g.granted ∙ f.granted;
  others = λ hash other h. g.others hash other (f.others hash other h);
}

-- no contract comes to be
pub kept_moved : (group : ℕ) (w x : World) → supply x ≡ supply w → x.granted ≡ w.granted →
    ((q : List ℕ) → contract_at w q ≡ None → contract_at x q ≡ None) → IsKept group w x
kept_moved group w x mutez granted none = record { mutez = mutez; granted = granted; others = λ hash other h. none hash h }

-- ---- events

pub told_keeps : (start : World) (s : Setting) (contents : ℕ) (w : World) (sender tag : List ℕ) (a : Kind) (x : Val)
    (waiting : List Waiting) (gas : ℕ) (counts : Counts) →
    IsGoing start s.group contents w (issued sender (event tag a x) ∷ waiting) counts →
    KeepsGoing start s contents waiting (told w sender tag a x gas counts)
told_keeps start s contents w sender tag a x waiting gas counts g =
    let first = All-head (IsGoodWaiting w) (issued sender (event tag a x)) waiting g.good.waits in
    record {
      good = record {
        sound = g.good.sound;
        waits = All-tail (IsGoodWaiting w) (issued sender (event tag a x)) waiting g.good.waits;
        tickets = λ id. nothing_before (held w id) (amount_among id (tickets x)) (amount_waiting id waiting) _
            (ap (amount_among id) (pushed_none (known_with w []) a x first.1.0 first.1.1)) (g.good.tickets id);
      };
      operations = g.operations;
      originations = g.originations;
      fresh = g.fresh;
      kept = g.kept;
    }
