-- MAP.
use Rattle.std.proofs.Common.{◌≡◌, ℕ, Bool, true, false, List, [], ◌∷◌, ◌++◌, length, Option, Some, None, refl, sym, ap, ◌∙◌, subst, arith, pos}
use Rattle.std.specs.Prelude.{◌≤ℤ◌, nat_le, if◌then◌else◌}
use Rattle.std.proofs.lemmas.Int.{ints}
use Rattle.rules_text.specs.nodes.Limits.{type_limit}
use Rattle.rules_data.specs.types.Kind.{Kind, nodes}
use Rattle.rules_data.specs.types.Kind as k
use Rattle.rules_code.specs.instructions.Same.{same_kinds}
use Rattle.rules_data.specs.values.Val.{Val, Vals, Pairs, no_pair, more_pairs}
use Rattle.rules_data.specs.values.Val as v
use Rattle.rules_data.specs.values.Forms.{AllHave, AllEntriesHave}
use Rattle.rules_data.specs.values.Tables.{AreKeysAbove, AreIncreasingKeys}
use Rattle.rules_data.specs.values.Tickets.{Identity, tickets, all_tickets, pair_tickets}
use Rattle.rules_code.specs.steps.Changes.{amount_in, amount_among}
use Rattle.rules_code.specs.typing.Typing.{Typing, Typer, goes, fails, bad, part_kind, made, made_of, mapped, shift}
use Rattle.rules_code.specs.typing.Fits.{Known, Fits, Leads}
use Rattle.rules_code.specs.typing.Stacks as asked
use Rattle.rules_code.specs.evaluation.Surroundings.{Surroundings}
use Rattle.rules_code.specs.evaluation.Operations.{Issued, Tally}
use Rattle.rules_code.specs.evaluation.Outcome.{Outcome, Run, unless_stuck}
use Rattle.rules_code.specs.evaluation.Items.{elements, entries, list_of, with_items, with_values, rebuilt}
use Rattle.rules_code.specs.evaluation.Branches.{paid}
use Rattle.rules_code.specs.evaluation.Loops.{map_each_run, map_run}
use Rattle.rules_data.specs.declared.gas.Kind.TheVariants as price
use Rattle.laws_code.specs.evaluation.Laws.{known, IsType, IsGood, amount_on}
use Rattle.laws_code.specs.stacks.Sound.{seen, total, Sound, KeepsFrom, SafeRun}
use Rattle.laws_data.proofs.amounts.ForCallers.{among_append}
use Rattle.laws_code.proofs.stacks.ForCallers.{on-append, fits_grow, knows_grow, keeps_from, sound_pop, keeps_charge, type_list, type_option, type_entry}
use Rattle.laws_data.proofs.types_lemmas.ForCallers.{same_kinds_true}
use Rattle.laws_code.proofs.control.Items.{Each, each_positive, each_element, each_entry, element_amount, entry_amount}
use Rattle.laws_code.proofs.control.MapTurns.{Makes, safe_map_each}

-- ---- what is made

list_fits : (w : Known) (b : Kind) (ys : List Val) → Each w b ys → AllHave (Fits w b) (list_of ys)
list_fits w b [] h = tt
list_fits w b (y ∷ ys) h = (h.0, list_fits w b ys h.1)

pub list_amount : (id : Identity) (ys : List Val) → amount_among id (all_tickets (list_of ys)) ≡ amount_on id ys
list_amount id [] = refl
list_amount id (y ∷ ys) = let h : amount_among id (all_tickets (list_of ys)) ≡ amount_on id ys = list_amount id ys in
    omega (arith, ints, among_append id (tickets y) (all_tickets (list_of ys)))

values_fit : (w : Known) (a b c : Kind) (es : Pairs) (ys : List Val) → AllEntriesHave (Fits w a) (Fits w b) es → Each w c ys →
    AllEntriesHave (Fits w a) (Fits w c) (with_values es ys)
values_fit w a b c no_pair ys h i = tt
values_fit w a b c (more_pairs x y es) [] h i = tt
values_fit w a b c (more_pairs x y es) (z ∷ zs) h i = (h.0, i.0, values_fit w a b c es zs h.2 i.1)

pub values_above : (x : Val) (es : Pairs) (ys : List Val) → AreKeysAbove x es → AreKeysAbove x (with_values es ys)
values_above x no_pair ys h = tt
values_above x (more_pairs j y es) [] h = tt
values_above x (more_pairs j y es) (z ∷ zs) h = (h.0, values_above x es zs h.1)

pub values_increase : (es : Pairs) (ys : List Val) → AreIncreasingKeys es → AreIncreasingKeys (with_values es ys)
values_increase no_pair ys h = tt
values_increase (more_pairs x y es) [] h = tt
values_increase (more_pairs x y es) (z ∷ zs) h = (values_above x es zs h.0, values_increase es zs h.1)

values_amount : (id : Identity) (w : Known) (c : Kind) (es : Pairs) (ys : List Val) → Each w c ys →
    amount_among id (pair_tickets (with_values es ys)) ≤ℤ amount_on id ys
values_amount id w c no_pair ys h = each_positive id w c ys h
values_amount id w c (more_pairs x y es) [] h = omega (arith, ints)
values_amount id w c (more_pairs x y es) (z ∷ zs) h =
    let i : amount_among id (pair_tickets (with_values es zs)) ≤ℤ amount_on id zs = values_amount id w c es zs h.1 in
    omega (arith, ints, among_append id (tickets z) (pair_tickets (with_values es zs)))

-- ---- MAP

part_is : (t : Typing) (A : List Kind) (z : Kind) → part_kind t A ≡ Some z → Leads t (z ∷ A)
part_is (goes []) A z h = absurd cc
part_is (goes (a ∷ B)) A z h = by_test (same_kinds B A) refl h
  where
    by_test : (x : Bool) → same_kinds B A ≡ x → (if x then Some a else None) ≡ Some z → a ∷ B ≡ z ∷ A
    by_test true q h = let i : B ≡ A = same_kinds_true B A q in cc
    by_test false q h = absurd cc
part_is fails A z h = absurd cc
part_is (bad m) A z h = absurd cc

part_shift : (at : ℕ) (t : Typing) (A : List Kind) → part_kind (shift at t) A ≡ part_kind t A
part_shift at (goes []) A = refl
part_shift at (goes (a ∷ B)) A = refl
part_shift at fails A = refl
part_shift at (bad m) A = refl

module _ (at : ℕ) (b : Typer) (r : Run) (sr : SafeRun (λ c A. shift at (b c A)) r) (e : Surroundings) (d : ℕ) (g : IsGood e) where
  abbrev typer : Typer
  typer c A = shift at (b c A)

  maps : (f : Kind → Kind) (c a : Kind) (x : Val) (xs : List Val) (A : List Kind) (V : List Val) (m : Tally) → IsType a →
      Sound (seen e) m.issued m.changes (c ∷ A) (x ∷ V) →
      Each (known e.contract_at m.issued) a xs → ((id : Identity) → amount_on id xs ≡ amount_in id x) →
      ((z : Kind) → Makes (seen e) m.issued (length xs) z (f z) (rebuilt x)) → ((z : Kind) → with_items c z ≡ f z) →
      KeepsFrom (seen e) m.issued m.changes (x ∷ V) (mapped (typer e.context (a ∷ A)) f A)
      (unless_stuck (part_kind (b e.context (a ∷ A)) A) (λ z. paid e price.Map m
      (λ m. map_each_run r a z (rebuilt x) (with_items c z) [] xs e d A V m)))
  maps f c a x xs A V m ty so h same k w = by_typing (b e.context (a ∷ A)) refl
    where
      runs : (z : Kind) → Leads (typer e.context (a ∷ A)) (z ∷ A) →
          KeepsFrom (seen e) m.issued m.changes (x ∷ V) (goes (f z ∷ A))
          (paid e price.Map m (λ m. map_each_run r a z (rebuilt x) (f z) [] xs e d A V m))
      runs z leads =
          keeps_charge (seen e) m (x ∷ V) (goes (f z ∷ A)) e.prices price.Map 0
          (λ m. map_each_run r a z (rebuilt x) (f z) [] xs e d A V m) (λ i.
          keeps_from (seen e) m.issued m.changes (xs ++ V) (x ∷ V) (goes (f z ∷ A))
          (map_each_run r a z (rebuilt x) (f z) [] xs e d A V (record m { gas = i }))
          (λ id. let q : amount_on id xs ≡ amount_in id x = same id in omega (arith, ints, on-append id xs V))
          (safe_map_each typer r sr e d g a z (f z) ty (rebuilt x) (length xs) xs [] A V (record m { gas = i }) leads
          (sound_pop (seen e) m.issued m.changes c A x V so) h tt (omega arith) (k z)
          (λ id. let q : amount_on id xs ≡ amount_in id x = same id in
          let l : amount_on id (x ∷ V) ≤ℤ total (seen e) m.changes id = so.below id in
          omega (arith, ints, on-append id xs V))))

      limited : (z : Kind) (x' : Bool) (o : Outcome) → KeepsFrom (seen e) m.issued m.changes (x ∷ V) (goes (f z ∷ A)) o →
          KeepsFrom (seen e) m.issued m.changes (x ∷ V) (if x' then goes (f z ∷ A) else bad 0) o
      limited z true o k = k
      limited z false o k = tt

      by_part : (p : Option Kind) → ((z : Kind) → p ≡ Some z → Leads (typer e.context (a ∷ A)) (z ∷ A)) →
          KeepsFrom (seen e) m.issued m.changes (x ∷ V) (made_of f p A)
          (unless_stuck p (λ z. paid e price.Map m (λ m. map_each_run r a z (rebuilt x) (with_items c z) [] xs e d A V m)))
      by_part None l = tt
      by_part (Some z) l =
          subst (λ y. KeepsFrom (seen e) m.issued m.changes (x ∷ V) (made (f z) A)
          (paid e price.Map m (λ m. map_each_run r a z (rebuilt x) y [] xs e d A V m))) (sym (w z))
          (limited z (nat_le (nodes (f z)) type_limit) _ (runs z (l z refl)))

      by_typing : (u : Typing) → b e.context (a ∷ A) ≡ u → KeepsFrom (seen e) m.issued m.changes (x ∷ V) (mapped (shift at u) f A)
          (unless_stuck (part_kind u A) (λ z. paid e price.Map m
          (λ m. map_each_run r a z (rebuilt x) (with_items c z) [] xs e d A V m)))
      by_typing (bad n) q = tt
      by_typing fails q = tt
      by_typing (goes B) q =
          subst (λ p. KeepsFrom (seen e) m.issued m.changes (x ∷ V) (made_of f p A)
          (unless_stuck (part_kind (goes B) A) (λ z. paid e price.Map m
          (λ m. map_each_run r a z (rebuilt x) (with_items c z) [] xs e d A V m))))
          (sym (part_shift at (goes B) A))
          (by_part (part_kind (goes B) A) (λ z p. part_is (typer e.context (a ∷ A)) A z
          (part_shift at (b e.context (a ∷ A)) A ∙ ap (λ u. part_kind u A) q ∙ p)))

  makes_list : (is : List Issued) (xs : Vals) (z : Kind) → Makes (seen e) is (length (elements xs)) z (k.list z)
      (rebuilt (v.list xs))
  makes_list is xs z = record {
    fits = λ js grow ys n h. list_fits (known e.contract_at js) z ys h;
    amounts = λ js ys n h id. let q : amount_among id (all_tickets (list_of ys)) ≡ amount_on id ys = list_amount id ys in
        omega (arith, ints);
  }

  makes_table : (is : List Issued) (a c : Kind) (es : Pairs) (z : Kind) →
      Fits (known e.contract_at is) (k.map a c) (v.table es) →
      Makes (seen e) is (length (entries es)) z (k.map a z) (rebuilt (v.table es))
  makes_table is a c es z f = record {
    fits = λ js grow ys n h.
        let g : Fits (known e.contract_at js) (k.map a c) (v.table es) = fits_grow (known e.contract_at is)
        (known e.contract_at js) (knows_grow (seen e) is js grow) (k.map a c) (v.table es) f in
        (values_fit (known e.contract_at js) a c z es ys g.0 h, values_increase es ys g.1);
    amounts = λ js ys n h id. values_amount id (known e.contract_at js) z es ys h;
  }

  makes_some : (is : List Issued) (x : Val) (z : Kind) → Makes (seen e) is 1 z (k.option z) (rebuilt (v.some x))
  makes_some is x z = record {
    fits = λ js grow ys n h. one (known e.contract_at js) ys n h;
    amounts = λ js ys n h id. less
        (known e.contract_at js) ys n h id;
  }
    where
      one : (w : Known) (ys : List Val) → length ys ≡ 1 → Each w z ys → Fits w (k.option z) (rebuilt (v.some x) ys)
      one w [] n h = absurd (omega arith)
      one w (y ∷ ys) n h = h.0

      less : (w : Known) (ys : List Val) → length ys ≡ 1 → Each w z ys → (id : Identity) →
          amount_in id (rebuilt (v.some x) ys) ≤ℤ amount_on id ys
      less w [] n h id = absurd (omega arith)
      less w (y ∷ ys) n h id = let q : pos 0 ≤ℤ amount_on id ys = each_positive id w z ys h.1 in omega (arith, ints)

  makes_none : (is : List Issued) (z : Kind) → Makes (seen e) is 0 z (k.option z) (rebuilt v.nothing)
  makes_none is z = record {
    fits = λ js grow ys n h. tt;
    amounts = λ js ys n h id. each_positive id
        (known e.contract_at js) z ys h;
  }

  pub safe_map : (A : List Kind) (V : List Val) (m : Tally) → Sound (seen e) m.issued m.changes A V →
      KeepsFrom (seen e) m.issued m.changes V (asked.on_mapped A (λ a f A. mapped (typer e.context (a ∷ A)) f A))
      (map_run (λ a A. part_kind (b e.context (a ∷ A)) A) r e d A V m)
  safe_map (k.list a ∷ A) (v.list xs ∷ V) m so =
      maps k.list (k.list a) a (v.list xs) (elements xs) A V m (type_list a so.types.0) so
      (each_element (known e.contract_at m.issued) a xs so.fit.0) (λ id. element_amount id xs)
      (makes_list m.issued xs) (λ z. refl)
  safe_map (k.map a c ∷ A) (v.table es ∷ V) m so =
      maps (k.map a) (k.map a c) (k.pair a c) (v.table es) (entries es) A V m (type_entry a c so.types.0) so
      (each_entry (known e.contract_at m.issued) a c es so.fit.0.0)
      (λ id. entry_amount id (known e.contract_at m.issued) a c es so.types.0.0.0 so.fit.0.0)
      (λ z. makes_table m.issued a c es z so.fit.0) (λ z. refl)
  safe_map (k.option a ∷ A) (v.some x ∷ V) m so =
      maps k.option (k.option a) a (v.some x) (x ∷ []) A V m (type_option a so.types.0) so (so.fit.0, tt)
      (λ id. omega (arith, ints)) (makes_some m.issued x) (λ z. refl)
  safe_map (k.option a ∷ A) (v.nothing ∷ V) m so =
      maps k.option (k.option a) a v.nothing [] A V m (type_option a so.types.0) so tt (λ id. refl) (makes_none m.issued)
      (λ z. refl)
  safe_map (k.list a ∷ A) [] m so = absurd so.fit
  safe_map (k.list a ∷ A) (x ∷ V) m so = absurd so.fit.0
  safe_map (k.map a c ∷ A) [] m so = absurd so.fit
  safe_map (k.map a c ∷ A) (x ∷ V) m so = absurd so.fit.0
  safe_map (k.option a ∷ A) [] m so = absurd so.fit
  safe_map (k.option a ∷ A) (x ∷ V) m so = absurd so.fit.0
  safe_map A V m so = tt
