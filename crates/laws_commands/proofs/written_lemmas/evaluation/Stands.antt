-- Outcomes whose values can be written, and how they are put together.
use Rattle.std.proofs.Common.{◌≡◌, ℕ, suc, ◌-◌, Bool, true, false, List, [], ◌∷◌, Option, Some, None, refl, sym, subst}
use Rattle.std.specs.Prelude.{nat_lt, nat_le}
use Rattle.rules_text.specs.nodes.Limits.{block_limit, operation_limit}
use Rattle.rules_data.specs.declared.gas.Kind.{Kind as Priced}
use Rattle.rules_data.specs.gas.Prices.{Listed, cost}
use Rattle.rules_data.specs.types.Kind.{Kind}
use Rattle.rules_data.specs.values.Val.{Val}
use Rattle.rules_data.specs.values.Val as v
use Rattle.rules_code.specs.instructions.Same.{same_kinds}
use Rattle.rules_code.specs.instructions.Arguments.{Found, found, fault}
use Rattle.rules_code.specs.typing.Typing.{Typing, Typer, goes, fails, bad}
use Rattle.rules_code.specs.steps.Step.{Step, done, wrong}
use Rattle.rules_code.specs.steps.Step as step
use Rattle.rules_code.specs.evaluation.Surroundings.{Surroundings}
use Rattle.rules_code.specs.evaluation.Operations.{Operation, Tally}
use Rattle.rules_code.specs.evaluation.Outcome.{Outcome, stack, failed, stuck, Go, Run, after, unless_stuck, only_if, with_gas, charge, opened, block, finish}
use Rattle.rules_code.specs.evaluation.Branches.{paid}
use Rattle.rules_code.specs.evaluation.Loops.{ending}
use Rattle.rules_code.specs.evaluation.Issuing.{with_operation, issued_where, issue}
use Rattle.rules_code.specs.evaluation.Given.{on_found, on_goes}
use Rattle.laws_typing.specs.packing.Laws.{IsTyped}
use Rattle.laws_data.proofs.types_lemmas.ForCallers.{same_kinds_true}
use Rattle.laws_code.specs.evaluation.Laws.{IsGood}
use Rattle.laws_code.specs.stacks.Sound.{seen, Sound, After, KeepsFrom}
use Rattle.rules_code.specs.evaluation.Surroundings.{Contract}
use Rattle.rules_code.specs.steps.Changes.{Change, minted, burnt}
use Rattle.std.specs.List.{AllByRecursion}
use Rattle.laws_commands.specs.written.Written.{HasIssuer, AllWritten, IsWrittenChange, IsWrittenFailure, IsWrittenOperation, IsWrittenTally, SeesWritten}
use Rattle.laws_commands.proofs.written_lemmas.values.Mints.{IsOwnMint, Mints}
use Rattle.laws_commands.proofs.written_lemmas.values.Steps as steps
use Rattle.laws_commands.proofs.common.Lists.{all_append}

-- where code begins
pub record Begins (There : List ℕ → Type 0) (e : Surroundings) (A : List Kind) (V : List Val) (m : Tally) : Type 0 where
  pub good : IsGood e
  pub sees : SeesWritten e
  pub sound : Sound (seen e) m.issued m.changes A V
  pub values : AllWritten V
  pub tally : IsWrittenTally There m
  -- the contract whose code runs is there, and so is each that can be seen
  pub own : There e.environment.own
  pub around : (hash : List ℕ) (c : Contract) → e.contract_at hash ≡ Some c → There hash

module _ (There : List ℕ → Type 0) where
  abbrev pub Keeps : Outcome → Type 0
  Keeps (stack A V m) = AllWritten V × IsWrittenTally There m
  Keeps (failed f) = IsWrittenFailure f
  Keeps stuck = Unit {0}

  abbrev pub KeepsRun : Typer → Run → Type 0
  KeepsRun t r = (e : Surroundings) (d : ℕ) (A : List Kind) (V : List Val) (m : Tally) → Begins There e A V m → IsTyped (t e.context A) →
      Keeps (r e d A V m)

  -- with other gas
  pub refuelled : {e : Surroundings} {A : List Kind} {V : List Val} {m : Tally} (gas : ℕ) → Begins There e A V m →
      Begins There e A V (record m { gas = gas })
  refuelled gas b = record {
    good = b.good;
    sees = b.sees;
    own = b.own;
    around = b.around;
    sound = b.sound;
    values = b.values;
    tally = record { issued = b.tally.issued; changes = b.tally.changes; issuers = b.tally.issuers };
  }

  module _ (e : Surroundings) (m : Tally) (V : List Val) where
    pub keeps_next : (t : Typing) (o : Outcome) (go : Go) → KeepsFrom (seen e) m.issued m.changes V t o → Keeps o → IsTyped t →
        ((B : List Kind) (W : List Val) (n : Tally) → t ≡ goes B → After (seen e) m.issued m.changes V B W n → AllWritten W →
        IsWrittenTally There n → Keeps (go B W n)) →
        Keeps (after o go)
    keeps_next (goes B) (stack C W n) go k j h f = subst (λ X. Keeps (go X W n)) (sym k.0) (f B W n refl k.1 j.0 j.1)
    keeps_next (goes B) (failed x) go k j h f = j
    keeps_next (goes B) stuck go k j h f = tt
    keeps_next fails (stack C W n) go k j h f = absurd k
    keeps_next fails (failed x) go k j h f = j
    keeps_next fails stuck go k j h f = tt
    keeps_next (bad l) o go k j h f = absurd h

    keeps_same : (B C : List Kind) (W : List Val) (n : Tally) (go : Go) → After (seen e) m.issued m.changes V B W n →
        (After (seen e) m.issued m.changes V C W n → Keeps (go C W n)) → Keeps (only_if (same_kinds B C) (go B W n))
    keeps_same B C W n go a f = by (same_kinds B C) refl
      where
        by : (b : Bool) → same_kinds B C ≡ b → Keeps (only_if b (go B W n))
        by true q =
            let same : B ≡ C = same_kinds_true B C q in
            subst (λ X. Keeps (go X W n)) (sym same) (f (subst (λ X. After (seen e) m.issued m.changes V X W n) same a))
        by false q = tt

    pub keeps_ending : (t : Typing) (o : Outcome) (C : List Kind) (go : Go) → KeepsFrom (seen e) m.issued m.changes V t o → Keeps o →
        IsTyped t →
        ((W : List Val) (n : Tally) → After (seen e) m.issued m.changes V C W n → AllWritten W → IsWrittenTally There n → Keeps (go C W n)) →
        Keeps (ending o C go)
    keeps_ending t o C go k j h f =
        keeps_next t o (λ B W n. only_if (same_kinds B C) (go B W n)) k j h (λ B W n e a w x. keeps_same B C W n go a (λ c. f W n c w x))

  pub keeps_only_if : (b : Bool) (o : Outcome) → (b ≡ true → Keeps o) → Keeps (only_if b o)
  keeps_only_if true o h = h refl
  keeps_only_if false o h = tt

  pub keeps_unless : {A : Type 0} (o : Option A) (go : A → Outcome) → ((x : A) → o ≡ Some x → Keeps (go x)) → Keeps (unless_stuck o go)
  keeps_unless None go h = tt
  keeps_unless (Some x) go h = h x refl

  pub keeps_found : {A : Type 0} (o : Found A) (go : A → Outcome) → ((x : A) → o ≡ found x → Keeps (go x)) → Keeps (on_found o go)
  keeps_found (found x) go h = h x refl
  keeps_found (fault n) go h = tt

  pub keeps_goes : (t : Typing) (go : List Kind → Outcome) → ((B : List Kind) → Keeps (go B)) → Keeps (on_goes t go)
  keeps_goes (goes B) go h = h B
  keeps_goes fails go h = tt
  keeps_goes (bad n) go h = tt

  pub keeps_charge : (prices : Listed) (kind : Priced) (weight : ℕ) (m : Tally) (go : Tally → Outcome) →
      ((gas : ℕ) → Keeps (go (record m { gas = gas }))) →
      Keeps (charge prices kind weight m go)
  keeps_charge prices kind weight m go h = by (nat_le (cost prices kind weight) m.gas)
    where
      by : (b : Bool) → Keeps (with_gas b (cost prices kind weight) m go)
      by true = h (m.gas - cost prices kind weight)
      by false = tt

  pub keeps_paid : (e : Surroundings) (kind : Priced) (m : Tally) (go : Tally → Outcome) → ((gas : ℕ) → Keeps (go (record m { gas = gas }))) →
      Keeps (paid e kind m go)
  keeps_paid e kind m go h = keeps_charge e.prices kind 0 m go h

  pub keeps_block : (t : Typer) (r : Run) → KeepsRun t r → KeepsRun t (block r)
  keeps_block t r h e d A V m b typed = by (nat_lt d block_limit)
    where
      by : (x : Bool) → Keeps (opened x r e d A V m)
      by true = h e (suc d) A V m b typed
      by false = tt

  issuers_of : (own : List ℕ) → There own → (cs : List Change) → AllByRecursion (IsOwnMint own) cs → AllByRecursion (HasIssuer There) cs
  issuers_of own here [] h = tt
  issuers_of own here (minted t ∷ cs) h = ((own, h.0, here), issuers_of own here cs h.1)
  issuers_of own here (burnt t ∷ cs) h = (tt, issuers_of own here cs h.1)

  pub keeps_finish : (s : Step) (B : List Kind) (m : Tally) → steps.Keeps s → (own : List ℕ) → There own →
      Mints own s → IsWrittenTally There m → Keeps (finish s B m)
  keeps_finish (done V cs) B m h own here mints t = (
    h.0,
    record {
      issued = t.issued;
      changes = all_append IsWrittenChange m.changes cs t.changes h.1;
      issuers = all_append (HasIssuer There) m.changes cs t.issuers (issuers_of own here cs mints.1);
    },
  )
  keeps_finish (step.fails x) B m h own here mints t = h
  keeps_finish wrong B m h own here mints t = tt

  pub keeps_issue : (o : Operation) (m : Tally) (go : Val → Tally → Outcome) → IsWrittenOperation o → IsWrittenTally There m →
      ((n : ℕ) (j : Tally) → IsWrittenTally There j → Keeps (go (v.operation n) j)) → Keeps (issue o m go)
  keeps_issue o m go h t f = by (nat_lt m.operations operation_limit)
    where
      by : (b : Bool) → Keeps (issued_where b o m go)
      by true = f m.operations (with_operation m o) (record {
        issued = all_append (λ i. IsWrittenOperation i.operation) m.issued (record { number = m.operations; operation = o } ∷ []) t.issued (
          h,
          tt,
        );
        changes = t.changes;
        issuers = t.issuers;
      })
      by false = tt
