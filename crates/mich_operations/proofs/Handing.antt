-- Contracts that are called with tickets that a source gives.
use Rattle.std.proofs.Common.{◌≡◌, ◌≤◌, ℕ, ℤ, pos, ◌+ℤ◌, ◌-ℤ◌, ◌≤ℤ◌, List, ◌∷◌, true, false, refl, sym, ◌∙◌, subst, arith}
use Rattle.std.specs.Prelude.{int_lt}
use Rattle.std.proofs.lemmas.Int.{ints}
use Rattle.rules_text.specs.nodes.Limits.{most_mutez}
use Rattle.rules_data.specs.forms.Spelling.{implicit_place, is_key_hash, is_place}
use Rattle.rules_code.specs.instructions.Same.{same_kind}
use Rattle.rules_code.specs.steps.Changes.{amount_of, amount_in, identity_of}
use Rattle.rules_data.specs.types.Kind.{Kind}
use Rattle.rules_data.specs.types.Kind as k
use Rattle.rules_data.specs.values.Tickets.{Held}
use Rattle.rules_data.specs.values.Val.{Val}
use Rattle.rules_world.specs.world.Contents.{Action}
use Rattle.rules_world.specs.world.Forms.{IsTicket}
use Rattle.rules_world.specs.world.Gives.{as_value}
use Rattle.rules_world.specs.world.Good.{FitsIn}
use Rattle.rules_world.specs.world.Holdings.{amount_held, debited, held, held_by}
use Rattle.rules_world.specs.world.Outcomes.{Setting, Waiting, ordered, Counts}
use Rattle.rules_world.specs.world.RunLaws.{IsCall}
use Rattle.rules_world.specs.world.Runs.{Call, environment_of}
use Rattle.rules_world.specs.world.Targets.{Target}
use Rattle.rules_world.specs.world.World.{World, account_or_none}
use Rattle.laws_world.proofs.accounts.ForCallers.{debited_held, fits_in_more}
use Rattle.laws_world.proofs.runs.ForCallers.{IsMet, met_more, orderly_of, IsOrderly, account_holdings}
use Rattle.laws_world.specs.runs.Going.{IsSetting, IsGoing}
use Rattle.laws_data.proofs.types_lemmas.ForCallers.{same_kind_true}
use Rattle.laws_world.proofs.groups_lemmas.ForCallers.{IsReceived, account_changed, run_called, taken_on, taken_order}
use Rattle.mich_world.proofs.simulation_lemmas.ForCallers.{account_held}

-- ---- it goes from an account

less_by : (x m : ℤ) → x -ℤ m ≡ x +ℤ (pos 0 -ℤ m)
less_by x m = omega (arith, ints)

as_much_as : (a b c : ℤ) → b ≡ c → int_lt b a ≡ false → a ≤ℤ c
as_much_as a b c e h = omega (arith, ints)

debited_is : (w : World) (who : List ℕ) (t : Held) → IsOrderly w → is_key_hash who ≡ true → IsTicket t
    → int_lt (held_by w (identity_of t) (implicit_place who)) t.amount ≡ false
    → IsReceived w (debited w who t) (λ id. pos 0 -ℤ amount_of id t)
debited_is w who t o key i enough =
    let a = account_or_none w who in
    account_changed w who (identity_of t) (amount_held a (identity_of t) -ℤ t.amount) (λ id. pos 0 -ℤ amount_of id t) o key i.0
    (λ id. debited_held a t id (account_holdings w o who)
    (as_much_as t.amount (held_by w (identity_of t) (implicit_place who)) (amount_held a (identity_of t)) (account_held w who (identity_of t) key) enough)
    ∙ less_by (amount_held a id) (amount_of id t))

-- ---- and a contract is called with it

zero_small : (n : ℕ) → 0 ≤ n
zero_small n = omega arith

on_way : (y h m : ℤ) → y ≡ h +ℤ (pos 0 -ℤ m) → y +ℤ (m +ℤ pos 0) ≡ h +ℤ pos 0
on_way y h m e = omega (arith, ints, e)

module _ (start : World) (s : Setting) (setting : IsSetting s) (contents : ℕ) (few : contents ≤ 1000) (w : World) (waiting : List Waiting) (counts : Counts) (action : Action)
    (going : IsGoing start s.group contents w (ordered action ∷ waiting) counts) (t : Held) (target : Target) where
  abbrev y : World
  y = debited w s.source t

  abbrev x : Val
  x = as_value t

  abbrev c : Call
  c = record { target = target; sender = implicit_place s.source; amount = 0; argument = x }

  source_place : is_place (implicit_place s.source) ≡ true
  source_place = let h = setting.source in rw h refl

  pub handed_call : IsTicket t → FitsIn w (k.ticket t.kind) x → IsMet w target → same_kind target.entry.kind (k.ticket t.kind) ≡ true
      → int_lt (held_by w (identity_of t) (implicit_place s.source)) t.amount ≡ false → IsCall (environment_of s y c) s y target x counts
  handed_call i fits m wanted enough =
      let d = debited_is w s.source t (orderly_of w going.good.sound) setting.source i enough in
      let on = taken_on start s.group contents w waiting counts (λ id. pos 0) (λ id. amount_in id x) y
      (taken_order start s.group contents w waiting counts action going) d.orderly d.more d.none d.log d.granted d.mutez
      (λ id. on_way (held y id) (held w id) (amount_of id t) (d.tickets id)) in
      run_called start s setting contents few y c waiting counts on (met_more w y target d.more m)
      (fits_in_more w y d.more target.entry.kind x (subst (λ (a : Kind). FitsIn w a x) (sym (same_kind_true target.entry.kind (k.ticket t.kind) wanted)) fits))
      source_place (zero_small most_mutez)
