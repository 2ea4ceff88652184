-- A type takes as many bytes as it has nodes, so that a front of so many bytes tells it.
use Rattle.std.proofs.Common.{◌≡◌, ℕ, zero, suc, ◌+◌, ◌-◌, ◌≤◌, ◌<◌, Bool, true, false, cond, ◌&&◌, List, [], ◌∷◌, ◌++◌, length, take, drop, Option, Some, None, option_map, Ok, Err, refl, ap, sym, subst, ◌∙◌, arith}
use Rattle.std.specs.Prelude.{option_and_then, nat_le}
use Rattle.std.proofs.Math.Decide.{dec_le}
use Rattle.std.proofs.lemmas.Bool.Decides.{nat_tests}
use Rattle.std.proofs.lemmas.List.{take-append-drop, length-take, take_all}
use Rattle.rules_text.specs.binary.Reading.{Spot, past}
use Rattle.rules_text.specs.nodes.Primitives.{primitive_of_code}
use Rattle.rules_data.specs.declared.types.OneArgument.TheVariants as one
use Rattle.rules_data.specs.declared.types.TwoArguments.TheVariants as two
use Rattle.rules_data.specs.types.Kind.{Kind, nodes}
use Rattle.rules_data.specs.types.Kind as k
use Rattle.rules_data.specs.types.Reading.{Former, simple_type, operation_type, one_argument, two_arguments, pair_type, no_type, former_of}
use Rattle.rules_data.specs.types.Attributes.{comparable}
use Rattle.rules_files.specs.snapshots.Reading.{kind_by, kind_within, content_nodes, kind_of, kind_at}
use Rattle.mich_saved.specs.Types.{content_kind}

-- what stands at the front of some bytes, and what stands there where other bytes follow
abbrev pub IsCut : List ℕ → List ℕ → Option (Kind × List ℕ) → Option (Kind × List ℕ) → Type 0
IsCut bs more (Some a) whole = (whole ≡ Some (a.0, a.1 ++ more)) × (length bs ≡ nodes a.0 + length a.1)
IsCut bs more None (Some b) = length bs < nodes b.0
IsCut bs more None None = Unit {0}

abbrev pub AreCut : (List ℕ → Option (Kind × List ℕ)) → Type 0
AreCut next = (bs more : List ℕ) → IsCut bs more (next bs) (next (bs ++ more))

option_cut : (c : ℕ) (bs more : List ℕ) (x y : Option (Kind × List ℕ)) → IsCut bs more x y
    → IsCut (c ∷ bs) more (option_map (λ (a : Kind × List ℕ). (k.option a.0, a.1)) x) (option_map (λ (a : Kind × List ℕ). (k.option a.0, a.1)) y)
option_cut c bs more (Some a) y h = (ap (option_map (λ (a : Kind × List ℕ). (k.option a.0, a.1))) h.0, omega (arith, h.1))
option_cut c bs more None (Some b) h = omega (arith, h)
option_cut c bs more None None h = tt

module _ (made : Kind → Kind → Kind) (counts : (a b : Kind) → nodes (made a b) ≡ nodes a + nodes b + 1) where
  second_cut : (c : ℕ) (bs rest more : List ℕ) (a : Kind) (x y : Option (Kind × List ℕ)) → length bs ≡ nodes a + length rest → IsCut rest more x y
      → IsCut (c ∷ bs) more (option_map (λ (b : Kind × List ℕ). (made a b.0, b.1)) x) (option_map (λ (b : Kind × List ℕ). (made a b.0, b.1)) y)
  second_cut c bs rest more a (Some b) y n h = (ap (option_map (λ (b : Kind × List ℕ). (made a b.0, b.1))) h.0, omega (arith, h.1, n, counts a b.0))
  second_cut c bs rest more a None (Some b) n h = omega (arith, h, n, counts a b.0)
  second_cut c bs rest more a None None n h = tt

  later_cut : (c : ℕ) (bs more : List ℕ) (a : Kind) (y : Option (Kind × List ℕ)) → length bs < nodes a
      → IsCut (c ∷ bs) more None (option_map (λ (b : Kind × List ℕ). (made a b.0, b.1)) y)
  later_cut c bs more a (Some b) n = omega (arith, n, counts a b.0)
  later_cut c bs more a None n = tt

  two_cut : (next : List ℕ → Option (Kind × List ℕ)) → AreCut next → (c : ℕ) (bs more : List ℕ) (x y : Option (Kind × List ℕ)) → IsCut bs more x y
      → IsCut (c ∷ bs) more
      (option_and_then (λ (a : Kind × List ℕ). option_map (λ (b : Kind × List ℕ). (made a.0 b.0, b.1)) (next a.1)) x)
      (option_and_then (λ (a : Kind × List ℕ). option_map (λ (b : Kind × List ℕ). (made a.0 b.0, b.1)) (next a.1)) y)
  two_cut next cut c bs more (Some a) y h = rw h.0 (second_cut c bs a.1 more a.0 (next a.1) (next (a.1 ++ more)) h.1 (cut a.1 more))
  two_cut next cut c bs more None (Some b) h = later_cut c bs more b.0 (next b.1) h
  two_cut next cut c bs more None None h = tt

by_cut : (f : Former) (next : List ℕ → Option (Kind × List ℕ)) → AreCut next → (c : ℕ) (bs more : List ℕ) → IsCut (c ∷ bs) more (kind_by f next bs) (kind_by f next (bs ++ more))
by_cut (simple_type s) next cut c bs more = (refl, omega arith)
by_cut operation_type next cut c bs more = tt
by_cut (one_argument one.Option) next cut c bs more = option_cut c bs more (next bs) (next (bs ++ more)) (cut bs more)
by_cut (one_argument one.List) next cut c bs more = tt
by_cut (one_argument one.Set) next cut c bs more = tt
by_cut (one_argument one.Contract) next cut c bs more = tt
by_cut (one_argument one.Ticket) next cut c bs more = tt
by_cut (two_arguments two.Or) next cut c bs more = two_cut k.or (λ a b. refl) next cut c bs more (next bs) (next (bs ++ more)) (cut bs more)
by_cut (two_arguments two.Map) next cut c bs more = tt
by_cut (two_arguments two.BigMap) next cut c bs more = tt
by_cut (two_arguments two.Lambda) next cut c bs more = tt
by_cut pair_type next cut c bs more = two_cut k.pair (λ a b. refl) next cut c bs more (next bs) (next (bs ++ more)) (cut bs more)
by_cut no_type next cut c bs more = tt

some_nodes : (a : Kind) → 1 ≤ nodes a
some_nodes (k.simple s) = omega arith
some_nodes k.operation = omega arith
some_nodes (k.option a) = omega arith
some_nodes (k.or a b) = omega arith
some_nodes (k.pair a b) = omega arith
some_nodes (k.list a) = omega arith
some_nodes (k.set a) = omega arith
some_nodes (k.map a b) = omega arith
some_nodes (k.big_map a b) = omega arith
some_nodes (k.lambda a b) = omega arith
some_nodes (k.contract a) = omega arith
some_nodes (k.ticket a) = omega arith

none_cut : (more : List ℕ) (y : Option (Kind × List ℕ)) → IsCut [] more None y
none_cut more None = tt
none_cut more (Some b) = some_nodes b.0

pub within_cut : (n : ℕ) → AreCut (kind_within n)
within_cut zero bs more = tt
within_cut (suc n) [] more = none_cut more (kind_within (suc n) more)
within_cut (suc n) (c ∷ bs) more = by_cut (former_of (primitive_of_code c)) (kind_within n) (within_cut n) c bs more

-- ---- types that are read are comparable

abbrev pub IsComparable : Option (Kind × List ℕ) → Type 0
IsComparable (Some a) = comparable a.0 ≡ true
IsComparable None = Unit {0}

abbrev pub AreComparable : (List ℕ → Option (Kind × List ℕ)) → Type 0
AreComparable next = (bs : List ℕ) → IsComparable (next bs)

both_true : (a b : Bool) → a ≡ true → b ≡ true → a && b ≡ true
both_true true b ha hb = hb
both_true false b ha hb = absurd cc

option_comparable : (x : Option (Kind × List ℕ)) → IsComparable x → IsComparable (option_map (λ (a : Kind × List ℕ). (k.option a.0, a.1)) x)
option_comparable (Some a) h = h
option_comparable None h = tt

module _ (made : Kind → Kind → Kind) (parts : (a b : Kind) → comparable (made a b) ≡ comparable a && comparable b) where
  second_comparable : (a : Kind) (y : Option (Kind × List ℕ)) → comparable a ≡ true → IsComparable y → IsComparable (option_map (λ (b : Kind × List ℕ). (made a b.0, b.1)) y)
  second_comparable a (Some b) h k = parts a b.0 ∙ both_true (comparable a) (comparable b.0) h k
  second_comparable a None h k = tt

  two_comparable : (next : List ℕ → Option (Kind × List ℕ)) → AreComparable next → (x : Option (Kind × List ℕ)) → IsComparable x
      → IsComparable (option_and_then (λ (a : Kind × List ℕ). option_map (λ (b : Kind × List ℕ). (made a.0 b.0, b.1)) (next a.1)) x)
  two_comparable next all (Some a) h = second_comparable a.0 (next a.1) h (all a.1)
  two_comparable next all None h = tt

by_comparable : (f : Former) (next : List ℕ → Option (Kind × List ℕ)) → AreComparable next → (bs : List ℕ) → IsComparable (kind_by f next bs)
by_comparable (simple_type s) next all bs = refl
by_comparable operation_type next all bs = tt
by_comparable (one_argument one.Option) next all bs = option_comparable (next bs) (all bs)
by_comparable (one_argument one.List) next all bs = tt
by_comparable (one_argument one.Set) next all bs = tt
by_comparable (one_argument one.Contract) next all bs = tt
by_comparable (one_argument one.Ticket) next all bs = tt
by_comparable (two_arguments two.Or) next all bs = two_comparable k.or (λ a b. refl) next all (next bs) (all bs)
by_comparable (two_arguments two.Map) next all bs = tt
by_comparable (two_arguments two.BigMap) next all bs = tt
by_comparable (two_arguments two.Lambda) next all bs = tt
by_comparable pair_type next all bs = two_comparable k.pair (λ a b. refl) next all (next bs) (all bs)
by_comparable no_type next all bs = tt

within_comparable : (n : ℕ) → AreComparable (kind_within n)
within_comparable zero bs = tt
within_comparable (suc n) [] = tt
within_comparable (suc n) (c ∷ bs) = by_comparable (former_of (primitive_of_code c)) (kind_within n) (within_comparable n) bs

-- ---- a type is read of a front

kind_found : (next : List ℕ → Option (Kind × List ℕ)) → AreCut next → (s : Spot) (a : Kind) (rest : List ℕ) → Some (a, rest) ≡ next (take content_nodes s.left)
    → kind_of (next s.left) s ≡ Ok (a, past (length (take content_nodes s.left) - length rest) s)
kind_found next cut s a rest h =
    let front = take content_nodes s.left in
    let more = drop content_nodes s.left in
    let whole : front ++ more ≡ s.left = take-append-drop content_nodes s.left in
    let parts : IsCut front more (Some (a, rest)) (next s.left) =
    subst (λ (x : Option (Kind × List ℕ)). IsCut front more x (next s.left)) (sym h) (subst (λ (bs : List ℕ). IsCut front more (next front) (next bs)) whole (cut front more)) in
    let short : length front ≤ content_nodes = omega (arith, length-take content_nodes s.left) in
    let fits : nat_le (nodes a) content_nodes ≡ true = grind (arith, nat_tests, parts.1, short) in
    let count : nodes a ≡ length front - length rest = omega (arith, parts.1) in
    ap (λ (o : Option (Kind × List ℕ)). kind_of o s) parts.0
    ∙ (ap (λ (b : Bool). cond b (Ok (a, past (nodes a) s)) (Err s.place)) fits ∙ ap (λ (n : ℕ). Ok (a, past n s)) count)

too_many : (s : Spot) (y : Option (Kind × List ℕ)) (front more : List ℕ) → content_nodes ≤ length front → IsCut front more None y → kind_of y s ≡ Err s.place
too_many s None front more n h = refl
too_many s (Some b) front more n h =
    let long : nat_le (nodes b.0) content_nodes ≡ false = grind (arith, nat_tests, h, n) in
    ap (λ (t : Bool). cond t (Ok (b.0, past (nodes b.0) s)) (Err s.place)) long

kind_missing : (next : List ℕ → Option (Kind × List ℕ)) → AreCut next → (s : Spot) → None ≡ next (take content_nodes s.left) → kind_of (next s.left) s ≡ Err s.place
kind_missing next cut s h =
    let front = take content_nodes s.left in
    let more = drop content_nodes s.left in
    let whole : front ++ more ≡ s.left = take-append-drop content_nodes s.left in
    let parts : IsCut front more None (next s.left) =
    subst (λ (x : Option (Kind × List ℕ)). IsCut front more x (next s.left)) (sym h) (subst (λ (bs : List ℕ). IsCut front more (next front) (next bs)) whole (cut front more)) in
    elim (dec_le (length s.left) content_nodes) [
      | yes short ↦
          let all : front ≡ s.left = take_all content_nodes s.left short in
          ap (λ (o : Option (Kind × List ℕ)). kind_of o s) (ap next (sym all) ∙ sym h)
      | no long ↦ too_many s (next s.left) front more (omega (arith, length-take content_nodes s.left)) parts
    ]

-- ---- the type of a ticket's content

pub kind_is_found : (s : Spot) (a : Kind) (rest : List ℕ) → Some (a, rest) ≡ content_kind (take content_nodes s.left)
    → kind_at s ≡ Ok (a, past (length (take content_nodes s.left) - length rest) s)
unfolding content_kind kind_at
kind_is_found s a rest h = kind_found (kind_within content_nodes) (within_cut content_nodes) s a rest h

pub kind_is_missing : (s : Spot) → None ≡ content_kind (take content_nodes s.left) → kind_at s ≡ Err s.place
unfolding content_kind kind_at
kind_is_missing s h = kind_missing (kind_within content_nodes) (within_cut content_nodes) s h

comparable_of : (o : Option (Kind × List ℕ)) (a : Kind) (rest : List ℕ) → Some (a, rest) ≡ o → IsComparable o → comparable a ≡ true
comparable_of o a rest h k = let p : IsComparable (Some (a, rest)) = subst IsComparable (sym h) k in p

pub content_is_comparable : (bs : List ℕ) (a : Kind) (rest : List ℕ) → Some (a, rest) ≡ content_kind bs → comparable a ≡ true
unfolding content_kind
content_is_comparable bs a rest h = comparable_of (kind_within content_nodes bs) a rest h (within_comparable content_nodes bs)

shorter : (bs more : List ℕ) (a : Kind) (rest : List ℕ) (x y : Option (Kind × List ℕ)) → Some (a, rest) ≡ x → IsCut bs more x y → length rest ≤ length bs
shorter bs more a rest x y h k = let p : IsCut bs more (Some (a, rest)) y = subst (λ (o : Option (Kind × List ℕ)). IsCut bs more o y) (sym h) k in omega (arith, p.1)

pub content_takes : (bs : List ℕ) (a : Kind) (rest : List ℕ) → Some (a, rest) ≡ content_kind bs → length rest ≤ length bs
unfolding content_kind
content_takes bs a rest h = shorter bs [] a rest (kind_within content_nodes bs) (kind_within content_nodes (bs ++ [])) h (within_cut content_nodes bs [])

pub ruleset content_laws = (kind_is_found, kind_is_missing, content_is_comparable, content_takes)
