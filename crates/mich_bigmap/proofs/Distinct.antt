-- The bases of a store have numbers of their own.
use Rattle.std.specs.Prelude.{if◌then◌else◌}
use Rattle.std.proofs.Common.{◌↔◌, sym, subst, ◌≡◌, ◌==◌, ℕ, Bool, true, false, is_some, List, [], ◌∷◌, map, Some, refl, ap, ◌∙◌}
use Rattle.std.specs.declared.cmp.Ordering.TheVariants.{Less, Equal}
use Rattle.std.specs.Ordering.{nat_cmp}
use Rattle.std.specs.Cmp.{tied_itself}
use Rattle.std.specs.List.{AllByRecursion}
use Rattle.std.specs.List.Sorted.{IsStrictlySortedBy}
use Rattle.std.proofs.lemmas.Bool.{eqb-true}
use Rattle.std.proofs.lemmas.Cmp.{nat_cmp_total}
use Rattle.mich_bigmap.specs.Bases.{Base, Bases, base_at}
use Rattle.mich_bigmap.specs.Formed.{is_there}
use Rattle.mich_bigmap.specs.Reached.{Reached, AreDistinct}
use Rattle.mich_bigmap.specs.Stored.{Stored, stored, with_kept}
use Rattle.mich_bigmap.proofs.Reaching.{kept_are_reached}
use Rattle.mich_bigmap.specs.Stacked.{base_of, stacked, bases_of, number_of}
use Rattle.mich_bigmap.specs.declared.layers.Layer.{Layer}

abbrev AllNew : Bases → List Layer → Type 0
AllNew bs ls = AllByRecursion (λ (l : Layer). is_there bs (Some l.number) ≡ false) ls

nothing_there : (ls : List Layer) → AllNew [] ls
nothing_there [] = tt
nothing_there (l ∷ ls) = (refl, nothing_there ls)

less_apart : (m n : ℕ) → nat_cmp m n ≡ Less → (m == n) ≡ false
less_apart m n h = by (m == n) refl
  where
    by : (t : Bool) → (m == n) ≡ t → t ≡ false
    by true e =
        let same : m ≡ n = eqb-true m n e in
        let less : nat_cmp m m ≡ Less = ap (nat_cmp m) same ∙ h in
        let equal : nat_cmp m m ≡ Equal = tied_itself nat_cmp_total m in
        absurd cc
    by false e = refl

apart : (b : Base) (bs : Bases) (k : ℕ) → (b.number == k) ≡ false → is_there bs (Some k) ≡ false → is_there (b ∷ bs) (Some k) ≡ false
apart b bs k e h = ap (λ (t : Bool). is_some (if t then Some (b, bs) else base_at bs k)) e ∙ h

new_still : (l : Layer) (ls : List Layer) (bs : Bases) → AllByRecursion (λ (z : ℕ). nat_cmp l.number z ≡ Less) (map number_of ls) → AllNew bs ls → AllNew (base_of l ∷ bs) ls
new_still l [] bs less n = tt
new_still l (x ∷ ls) bs less n = (apart (base_of l) bs x.number (less_apart l.number x.number less.0) n.0, new_still l ls bs less.1 n.1)

distinct_from : (ls : List Layer) (bs : Bases) → AreDistinct bs → AllNew bs ls → IsStrictlySortedBy nat_cmp (map number_of ls) → AreDistinct (stacked ls bs)
unfolding IsStrictlySortedBy
distinct_from [] bs d n s = d
distinct_from (l ∷ ls) bs d n s = distinct_from ls (base_of l ∷ bs) (n.0, d) (new_still l ls bs s.0 n.1) s.1

pub distinct_layers : (ls : List Layer) → IsStrictlySortedBy nat_cmp (map number_of ls) → AreDistinct (bases_of ls)
distinct_layers ls s = distinct_from ls [] tt (nothing_there ls) s

-- a store keeps what is reached from its notes
pub kept_reached : (old new : Stored) (ls : List Layer) (kept : ℕ) → stored ls kept ≡ old → IsStrictlySortedBy nat_cmp (map number_of ls) → new ≡ with_kept old
    → (k : ℕ) → (is_there new.bases.present (Some k) ≡ true) ↔ ((is_there old.bases.present (Some k) ≡ true) × Reached old.noted old.bases.present k)
kept_reached old new ls kept view sorted is k =
    subst (λ (x : Stored). (is_there x.bases.present (Some k) ≡ true) ↔ ((is_there old.bases.present (Some k) ≡ true) × Reached old.noted old.bases.present k)) (sym is)
    (subst (λ (y : Stored). (is_there (with_kept y).bases.present (Some k) ≡ true) ↔ ((is_there y.bases.present (Some k) ≡ true) × Reached y.noted y.bases.present k)) view
    (kept_are_reached (stored ls kept).noted (bases_of ls) k (distinct_layers ls sorted)))
