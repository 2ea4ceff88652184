-- What is given is no more than all.
use Rattle.std.proofs.Common.{◌≡◌, ℕ, ℤ, pos, ◌+ℤ◌, ◌<ℤ◌, ◌≤ℤ◌, List, [], ◌∷◌, map, Bool, true, false, refl, arith}
use Rattle.std.specs.Prelude.{if◌then◌else◌}
use Rattle.std.proofs.lemmas.Int.{ints}
use Rattle.std.specs.Str.{bytes_eq}
use Rattle.std.specs.List.{AllByRecursion}
use Rattle.rules_code.specs.evaluation.Surroundings.{Contract}
use Rattle.rules_code.specs.steps.Changes.{identity_of, is_alike, amount_of, amount_among}
use Rattle.rules_data.specs.forms.Spelling.{implicit_place, contract_place}
use Rattle.rules_data.specs.values.Tickets.{Identity, Held}
use Rattle.rules_world.specs.world.Holdings.{amount_held, held_by_accounts, held_by_contracts}
use Rattle.rules_world.specs.world.World.{Account}
use Rattle.mich_tickets.specs.Limits.{IsPositive}
use Rattle.mich_world.specs.Gifts.{Gift, given}
use Rattle.mich_world.proofs.restoring_lemmas.Given.{IsGift, amount_stored}

sum_least : (a b : ℤ) → pos 0 ≤ℤ a → pos 0 ≤ℤ b → pos 0 ≤ℤ (a +ℤ b)
sum_least a b h g = omega (arith, ints)

of_least : (b : Bool) (n : ℤ) → pos 0 <ℤ n → pos 0 ≤ℤ (if b then n else pos 0)
of_least true n h = omega (arith, ints)
of_least false n h = omega (arith, ints)

none_or : (b : Bool) (n : ℤ) → pos 0 ≤ℤ n → pos 0 ≤ℤ (if b then n else pos 0)
none_or true n h = h
none_or false n h = omega (arith, ints)

pub among_least : (j : Identity) (ts : List Held) → AllByRecursion IsPositive ts → pos 0 ≤ℤ amount_among j ts
among_least j [] h = omega (arith, ints)
among_least j (t ∷ ts) h = sum_least (amount_of j t) (amount_among j ts) (of_least (is_alike j (identity_of t)) t.amount h.0) (among_least j ts h.1)

abbrev pub ArePositive : List Gift → Type 0
ArePositive gs = AllByRecursion (λ (g : Gift). AllByRecursion IsPositive g.1) gs

pub given_least : (j : Identity) (o : List ℕ) (gs : List Gift) → ArePositive gs → pos 0 ≤ℤ given j o gs
given_least j o [] h = omega (arith, ints)
given_least j o (g ∷ gs) h =
    sum_least (if bytes_eq o g.0 then amount_among j g.1 else pos 0) (given j o gs)
    (none_or (bytes_eq o g.0) (amount_among j g.1) (among_least j g.1 h.0)) (given_least j o gs h.1)

abbrev pub all_given : Identity → List Gift → ℤ
all_given j [] = pos 0
all_given j (g ∷ gs) = amount_among j g.1 +ℤ all_given j gs

part_most : (b : Bool) (n x y : ℤ) → pos 0 ≤ℤ n → x ≤ℤ y → ((if b then n else pos 0) +ℤ x) ≤ℤ (n +ℤ y)
part_most true n x y h g = omega (arith, ints)
part_most false n x y h g = omega (arith, ints)

pub given_most : (j : Identity) (o : List ℕ) (gs : List Gift) → ArePositive gs → given j o gs ≤ℤ all_given j gs
given_most j o [] h = omega (arith, ints)
given_most j o (g ∷ gs) h = part_most (bytes_eq o g.0) (amount_among j g.1) (given j o gs) (all_given j gs) (among_least j g.1 h.0) (given_most j o gs h.1)

module _ {S : Type 0} (at : S → List ℕ × Account) (gift : S → Gift) where
  pub accounts_hold : (id : Identity) (ss : List S) → AllByRecursion (IsGift at gift implicit_place amount_held) ss → all_given id (map gift ss) ≡ held_by_accounts id (map at ss)
  accounts_hold id [] h = refl
  accounts_hold id (s ∷ ss) h = λ i. h.0.amounts id i +ℤ accounts_hold id ss h.1 i

module _ {S : Type 0} (at : S → List ℕ × Contract) (gift : S → Gift) where
  pub contracts_hold : (id : Identity) (ss : List S) → AllByRecursion (IsGift at gift contract_place amount_stored) ss → all_given id (map gift ss) ≡ held_by_contracts id (map at ss)
  contracts_hold id [] h = refl
  contracts_hold id (s ∷ ss) h = λ i. h.0.amounts id i +ℤ contracts_hold id ss h.1 i

pub all_given_least : (j : Identity) (gs : List Gift) → ArePositive gs → pos 0 ≤ℤ all_given j gs
all_given_least j [] h = omega (arith, ints)
all_given_least j (g ∷ gs) h = sum_least (amount_among j g.1) (all_given j gs) (among_least j g.1 h.0) (all_given_least j gs h.1)
