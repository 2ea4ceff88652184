-- Operations are put by their numbers, and picked one after the other.
use Rattle.std.proofs.Common.{◌≡◌, ◌<◌, ℕ, Bool, true, false, cond, List, [], ◌∷◌, ◌++◌, Some, None, refl, sym, ap, ◌∙◌, subst, append_assoc, ◌==◌, arith}
use Rattle.std.specs.Prelude.{nat_lt}
use Rattle.std.specs.declared.option.Option.{Option}
use Rattle.std.specs.declared.cmp.Ordering.TheVariants.{Less, Equal, Greater}
use Rattle.std.specs.BTreeMap.{is_at, insert_entry}
use Rattle.std.specs.List.{AllByRecursion}
use Rattle.std.specs.Map.{lookup, remove_entry}
use Rattle.std.specs.Ordering.{nat_cmp, match_ordering}
use Rattle.std.proofs.lemmas.Bool.{ltb-true, eqb-true}
use Rattle.std.proofs.lemmas.List.{append-nil}
use Rattle.rules_data.specs.values.Val.{Vals, operation, more_vals, no_val}
use Rattle.rules_world.specs.world.Runs.{with_number, numbers_in}
use Rattle.mich_ops.specs.declared.issued.Issued.{Issued}
use Rattle.mich_machine.specs.Returned.{number_of, AreRising, Numbered, numbered, by_number, Pick, with_pick, picks}

-- ---- operations are put behind those with lower numbers

greater : (n k : ℕ) → k < n → nat_cmp n k ≡ Greater
greater n k h = by (nat_lt n k) refl (n == k) refl
  where
    by : (b : Bool) → nat_lt n k ≡ b → (c : Bool) → (n == k) ≡ c → cond b Less (cond c Equal Greater) ≡ Greater
    by true e c f = let l = ltb-true n k e in absurd (omega (arith, l, h))
    by false e true f = let s = eqb-true n k f in absurd (omega (arith, s, h))
    by false e false f = refl

put_last : (n : ℕ) (x : Issued) (ys : List Issued) → AllByRecursion (λ y. number_of y < n) ys → insert_entry nat_cmp (by_number ys) n x ≡ by_number ys ++ (n, x) ∷ []
put_last n x [] h = refl
put_last n x (y ∷ ys) h =
    ap (λ o. match_ordering o ((n, x) ∷ numbered y ∷ by_number ys) ((number_of y, x) ∷ by_number ys) (numbered y ∷ insert_entry nat_cmp (by_number ys) n x)) (greater n (number_of y) h.0)
    ∙ ap (λ es. numbered y ∷ es) (put_last n x ys h.1)

by_number_last : (x : Issued) (ys : List Issued) → by_number (ys ++ x ∷ []) ≡ by_number ys ++ numbered x ∷ []
by_number_last x [] = refl
by_number_last x (y ∷ ys) = ap (λ es. numbered y ∷ es) (by_number_last x ys)

below_last : (x : Issued) (ys rest : List Issued) → AreRising (ys ++ x ∷ rest) → AllByRecursion (λ y. number_of y < number_of x) ys
below_last x [] rest h = tt
below_last x (y ∷ ys) rest h = (among ys h.0, below_last x ys rest h.1)
  where
    among : (zs : List Issued) → AllByRecursion (λ z. number_of y < number_of z) (zs ++ x ∷ rest) → number_of y < number_of x
    among [] g = g.0
    among (z ∷ zs) g = among zs g.1

pub put_next : (x : Issued) (n : ℕ) (ys rest all : List Issued) (old new : Numbered) → ys ++ x ∷ rest ≡ all → AreRising all → old ≡ by_number ys → n ≡ number_of x →
    new ≡ insert_entry nat_cmp old n x → new ≡ by_number (ys ++ x ∷ [])
put_next x n ys rest all old new place rising so_far number step =
    step ∙ (λ i. insert_entry nat_cmp (so_far i) (number i) x)
    ∙ put_last (number_of x) x ys (below_last x ys rest (subst AreRising (sym place) rising)) ∙ sym (by_number_last x ys)

-- ---- and picked

abbrev pub with_front : List Issued → Option Pick → Option Pick
with_front xs (Some p) = Some (record { picked = xs ++ p.picked; left = p.left })
with_front xs None = None

pub front_none : (q : Option Pick) → with_front [] q ≡ q
front_none (Some p) = refl
front_none None = refl

more_front : (xs : List Issued) (x : Issued) (q : Option Pick) → with_front xs (with_pick (Some x) q) ≡ with_front (xs ++ x ∷ []) q
more_front xs x (Some p) = ap (λ ys. Some (record { picked = ys; left = p.left })) (sym (append_assoc xs (x ∷ []) p.picked))
more_front xs x None = refl

-- the numbers that are left, and what is picked by them
pub record IsOnWay (o : Option Pick) (vs : Vals) (xs : List Issued) (q : Numbered) : Type 0 where
  pub numbers : List ℕ
  pub are : numbers_in vs ≡ Some numbers
  pub same : o ≡ with_front xs (picks q numbers)

next_numbers : (n : ℕ) (o : Option (List ℕ)) (ms : List ℕ) → with_number (Some n) o ≡ Some ms → (ns : List ℕ) × (o ≡ Some ns) × (ms ≡ n ∷ ns)
next_numbers n (Some ns) ms h = (ns, refl, cc)
next_numbers n None ms h = absurd cc

module _ (o : Option Pick) (n : ℕ) (vs : Vals) (xs : List Issued) (q : Numbered) (h : IsOnWay o (more_vals (operation n) vs) xs q) where
  next : (ns : List ℕ) × (numbers_in vs ≡ Some ns) × (h.numbers ≡ n ∷ ns)
  next = next_numbers n (numbers_in vs) h.numbers h.are

  pub on_way : (x : Issued) (new : Numbered) → Some x ≡ lookup (is_at (nat_cmp n)) q → new ≡ remove_entry (is_at (nat_cmp n)) q → IsOnWay o vs (xs ++ x ∷ []) new
  on_way x new found gone = record {
    numbers = next.0;
    are = next.1;
    same = h.same ∙ ap (λ ns. with_front xs (picks q ns)) next.2
        ∙ (λ i. with_front xs (with_pick (sym found i) (picks (sym gone i) next.0))) ∙ more_front xs x (picks new next.0);
  }

  pub off_way : None ≡ lookup (is_at (nat_cmp n)) q → o ≡ None
  off_way missing =
      h.same ∙ ap (λ ns. with_front xs (picks q ns)) next.2 ∙ (λ i. with_front xs (with_pick (sym missing i) (picks (remove_entry (is_at (nat_cmp n)) q) next.0)))

pub way_ends : (o : Option Pick) (xs : List Issued) (q : Numbered) → IsOnWay o no_val xs q → o ≡ Some (record { picked = xs; left = q })
way_ends o xs q h =
    let none : h.numbers ≡ [] = cc (h.are) in
    h.same ∙ ap (λ ns. with_front xs (picks q ns)) none ∙ ap (λ ys. Some (record { picked = ys; left = q })) (append-nil xs)
