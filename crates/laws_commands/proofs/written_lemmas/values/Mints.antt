-- Each ticket that a step mints is of the contract whose code runs.
use Rattle.std.proofs.Common.{◌≡◌, ℕ, List, [], ◌∷◌, ap}
use Rattle.std.specs.Prelude.{ℤ}
use Rattle.std.specs.List.{AllByRecursion, flat_map}
use Rattle.rules_data.specs.forms.Spelling.{contract_place}
use Rattle.rules_data.specs.values.Val.{Val}
use Rattle.rules_data.specs.values.Tickets.{Identity, Held, tickets}
use Rattle.rules_code.specs.instructions.Straight.{Straight}
use Rattle.rules_code.specs.steps.Changes.{Change, minted, burnt, burns}
use Rattle.rules_code.specs.steps.Environment.{Environment}
use Rattle.rules_code.specs.steps.Step.{Step}
use Rattle.rules_code.specs.steps.Packing.{Trial}
use Rattle.rules_code.specs.steps.Steps.{step}
use Rattle.rules_data.specs.values.Literals.{read}
use Rattle.laws_commands.proofs.common.Parts.{HasParts, IsOfParts}
use Rattle.laws_commands.proofs.common.Readings.{gives_any}
use Rattle.laws_commands.proofs.common.Steps.{StepHas, AreMade, AreAround, any_all, may_any}
use Rattle.laws_commands.proofs.common.Steps as steps

any_parts : HasParts (λ x. Unit {0}) (λ xs. Unit {0}) (λ es. Unit {0})
any_parts = record {
  unit = tt;
  truth = λ b. tt;
  number = λ z. tt;
  nothing = tt;
  some = λ x h. tt;
  left = λ x h. tt;
  right = λ x h. tt;
  both = λ x y h g. tt;
  set = λ xs h. tt;
  table = λ es h. tt;
  big_table = λ es h. tt;
  no_value = tt;
  value = λ x xs h g. tt;
  no_entry = tt;
  entry = λ x y es h g k. tt;
}

parts_any : IsOfParts (λ x. Unit {0}) (λ xs. Unit {0}) (λ es. Unit {0})
parts_any = record {
  some = λ x h. tt;
  both = λ x y h. (tt, tt);
  set = λ xs h. tt;
  table = λ es h. tt;
  big_table = λ es h. tt;
  value = λ x xs h. (tt, tt);
  entry = λ x y es h. (tt, tt, tt);
}

module _ (own : List ℕ) where
  abbrev pub IsOwnMint : Change → Type 0
  IsOwnMint (minted t) = t.issuer ≡ contract_place own
  IsOwnMint (burnt t) = Unit {0}

  abbrev pub Mints : Step → Type 0
  Mints s = StepHas (λ x. Unit {0}) IsOwnMint (λ f. Unit {0}) s

  burnt_own : (ts : List Held) → AllByRecursion IsOwnMint (burns ts)
  burnt_own [] = tt
  burnt_own (t ∷ ts) = (tt, burnt_own ts)

  made_own : AreMade (λ x. Unit {0}) IsOwnMint (λ f. Unit {0})
  made_own = record {
    burnt = λ V h. burnt_own (flat_map tickets V);
    limits = λ l. tt;
    too_long = tt;
    nat_to_bytes = λ n. tt;
    int_to_bytes = λ z. tt;
    concat_strings = λ a b h g. tt;
    concat_bytes = λ a b short h g. tt;
    concat_string_list = λ xs h. tt;
    concat_bytes_list = λ xs short h. tt;
    slice_string = λ offset count b h. tt;
    slice_bytes = λ offset count b h. tt;
    pack = λ x short h. tt;
    unpack = λ a c b t h e. gives_any (read a 0 t);
    blake2b = λ b. tt;
    hash_256 = λ b. tt;
    hash_512 = λ b. tt;
    hash_key = λ b h. tt;
    issuer = λ place a x n h. tt;
    content = λ place a x n h. tt;
    amount = λ place a x n m h. tt;
  }

  around_own : (e : Environment) → e.own ≡ own → AreAround (λ x. Unit {0}) IsOwnMint (λ a x. Unit {0}) e
  around_own e same = record {
    sender = tt;
    source = tt;
    own = tt;
    chain = tt;
    mint = λ a x n k h. (tt, ap contract_place same);
  }

  pub step_mints : (e : Environment) → e.own ≡ own → (total : Identity → ℤ) (passes : Trial) (r : Straight) (V : List Val) →
      Mints (step e total passes r V)
  step_mints e same total passes r V =
      steps.step_keeps (λ x. Unit {0}) (λ xs. Unit {0}) (λ es. Unit {0}) IsOwnMint (λ f. Unit {0}) any_parts parts_any made_own
      (λ a x. Unit {0}) e (around_own e same) (λ x. Unit {0}) (λ x h. tt) tt (λ x xs h g. tt) total passes r V (may_any r V) (any_all V)
