-- Growth is paid behind every operation that lets a contract grow.
use Rattle.std.proofs.Common.{◌≡◌, ◌≤◌, ℕ, ◌+◌, ◌-◌, List, Bool, true, false, Some, None, refl, sym, ap, ◌∙◌, subst, arith, cond}
use Rattle.std.specs.Prelude.{nat_lt, if◌then◌else◌}
use Rattle.std.specs.declared.option.Option.{Option}
use Rattle.std.specs.List.{All}
use Rattle.std.specs.Ordering.{nat_cmp}
use Rattle.std.specs.Cmp.{tied_itself}
use Rattle.std.specs.Cmp.Lexicographic.{slice_cmp}
use Rattle.std.specs.BTreeMap.{is_at, insert_entry}
use Rattle.std.specs.Map.{lookup, values_of}
use Rattle.std.proofs.lemmas.Bool.{ltb-false}
use Rattle.std.proofs.lemmas.Cmp.{nat_list_cmp_total}
use Rattle.std.proofs.lemmas.Map.Views.{All-values-insert_entry}
use Rattle.rules_data.specs.forms.Spelling.{implicit_place, is_key_hash}
use Rattle.rules_code.specs.evaluation.Surroundings.{Contract}
use Rattle.rules_world.specs.world.World.{World, contract_at}
use Rattle.rules_world.specs.world.Balances.{balance_or_none}
use Rattle.rules_world.specs.world.Growth.{Burn, size_of, burn_for, burn_by, burn_of, with_paid, paid_for, burnt_from, unless_short, burning, growing}
use Rattle.rules_world.specs.world.Outcomes.{Setting, Success, Outcome, applied, failed, stuck}
use Rattle.laws_world.proofs.accounts.ForCallers.{lookup_insert}
use Rattle.laws_world.proofs.runs.ForCallers.{at_itself}
use Rattle.laws_files.specs.Laws.{HasPaid}
use Rattle.laws_files.proofs.paid.Entries.{insert_again}
use Rattle.laws_files.proofs.paid.Moves.{IsPaidBy}

-- a paid world in which a contract was set that may be larger than it has paid for
pub record IsGrown (r : Option ℕ) (hash : List ℕ) (w : World) : Type 0 where
  pub rate : w.rate ≡ r
  pub burn : r ≡ None → w.storage_burn ≡ 0
  pub before : List (List ℕ × Contract)
  pub paid : All (HasPaid r) (values_of before)
  pub contract : Contract
  pub contracts : w.contracts ≡ insert_entry (slice_cmp nat_cmp) before hash contract
  pub nothing : r ≡ None → contract.paid ≡ 0

-- the world behind an outcome, if there is one
abbrev pub AppliesIn : (World → Type 0) → Outcome → Type 0
AppliesIn P (applied a) = P a.world
AppliesIn P (failed failure) = Unit {0}
AppliesIn P stuck = Unit {0}

module _ (r : Option ℕ) (hash : List ℕ) where
  -- with another contract in its place, that has paid, the world is paid
  replaced : (w : World) (g : IsGrown r hash w) (c : Contract) → HasPaid r c →
      All (HasPaid r) (values_of (insert_entry (slice_cmp nat_cmp) g.before hash c))
  replaced w g c h = All-values-insert_entry (slice_cmp nat_cmp) hash c (HasPaid r) g.before g.paid h

  -- where the contract has paid already
  enough : (w : World) → (g : IsGrown r hash w) → HasPaid r g.contract → IsPaidBy r w
  enough w g h = record {
    rate = g.rate;
    burn = g.burn;
    contracts = subst (λ es. All (HasPaid r) (values_of es)) (sym g.contracts) (replaced w g g.contract h);
  }

  there : (w : World) (g : IsGrown r hash w) → contract_at w hash ≡ Some g.contract
  there w g =
      ap (lookup (is_at (slice_cmp nat_cmp hash))) g.contracts
      ∙ lookup_insert (slice_cmp nat_cmp) nat_list_cmp_total hash g.before hash g.contract
      ∙ ap (λ b. cond b (Some g.contract) (lookup (is_at (slice_cmp nat_cmp hash)) g.before)) (at_itself hash)

all_paid : (size paid : ℕ) → size ≤ paid + (size - paid)
all_paid size paid = omega arith

-- the growth is charged to the group's source, a key hash, so no contract's balance moves
module _ (s : Setting) (key : is_key_hash s.source ≡ true) (hash : List ℕ) where
  abbrev payer : List ℕ
  payer = implicit_place s.source

  contracts_stay : (w : World) (mutez : ℕ) → (burnt_from w payer mutez).contracts ≡ w.contracts
  contracts_stay w mutez = rw key refl

  rate_stays : (w : World) (mutez : ℕ) → (burnt_from w payer mutez).rate ≡ w.rate
  rate_stays w mutez = rw key refl

  module _ (rate : ℕ) (w : World) (g : IsGrown (Some rate) hash w) (b : Burn) (exact : b.bytes ≡ size_of g.contract - g.contract.paid) where
    abbrev x : World
    x = burnt_from w payer b.mutez

    abbrev d : Contract
    d = record (g.contract) { paid = g.contract.paid + b.bytes }

    d_paid : HasPaid (Some rate) d
    d_paid = subst (λ n. size_of g.contract ≤ g.contract.paid + n) (sym exact) (all_paid (size_of g.contract) g.contract.paid)

    abbrev set : List (List ℕ × Contract) → List (List ℕ × Contract)
    set es = insert_entry (slice_cmp nat_cmp) es hash d

    contracts_are : set x.contracts ≡ set g.before
    contracts_are =
        ap set (contracts_stay w b.mutez ∙ g.contracts)
        ∙ insert_again (slice_cmp nat_cmp) hash (tied_itself nat_list_cmp_total hash) g.contract d g.before

    still_there : contract_at x hash ≡ Some g.contract
    still_there = ap (lookup (is_at (slice_cmp nat_cmp hash))) (contracts_stay w b.mutez) ∙ there (Some rate) hash w g

    burnt_paid : IsPaidBy (Some rate) (paid_for x hash b.bytes)
    burnt_paid = subst (λ o. IsPaidBy (Some rate) (with_paid x hash b.bytes o)) (sym still_there) (record {
      rate = rate_stays w b.mutez ∙ g.rate;
      burn = λ none. absurd cc;
      contracts = subst (λ es. All (HasPaid (Some rate)) (values_of es)) (sym contracts_are) (replaced (Some rate) hash w g d d_paid);
    })

  charged_paid : (rate : ℕ) (a : Success) (g : IsGrown (Some rate) hash a.world) (b : Bool) →
      nat_lt g.contract.paid (size_of g.contract) ≡ b →
      AppliesIn (IsPaidBy (Some rate)) (burning (if b then Some (burn_for rate (size_of g.contract - g.contract.paid)) else None) payer hash a)
  charged_paid rate a g true e = by (nat_lt (balance_or_none a.world payer) b.mutez)
    where
      b : Burn
      b = burn_for rate (size_of g.contract - g.contract.paid)

      by : (q : Bool) → AppliesIn (IsPaidBy (Some rate)) (unless_short q payer hash b a)
      by true = tt
      by false = burnt_paid rate a.world g b refl
  charged_paid rate a g false e = enough (Some rate) hash a.world g (ltb-false g.contract.paid (size_of g.contract) e)

  applied_paid : (r : Option ℕ) (a : Success) → IsGrown r hash a.world → AppliesIn (IsPaidBy r) (burning (burn_of a.world hash) payer hash a)
  applied_paid (Some rate) a g =
      subst (λ o. AppliesIn (IsPaidBy (Some rate)) (burning o payer hash a))
      (sym (ap (λ r. burn_by r (contract_at a.world hash)) g.rate ∙ ap (burn_by (Some rate)) (there (Some rate) hash a.world g)))
      (charged_paid rate a g (nat_lt g.contract.paid (size_of g.contract)) refl)
  applied_paid None a g =
      subst (λ o. AppliesIn (IsPaidBy None) (burning o payer hash a))
      (sym (ap (λ r. burn_by r (contract_at a.world hash)) g.rate))
      (enough None hash a.world g (g.nothing refl))

  pub growing_paid : (r : Option ℕ) (o : Outcome) → AppliesIn (IsGrown r hash) o → AppliesIn (IsPaidBy r) (growing s hash o)
  growing_paid r (applied a) g = applied_paid r a g
  growing_paid r (failed failure) g = tt
  growing_paid r stuck g = tt
