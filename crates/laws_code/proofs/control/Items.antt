-- ITER and MAP.
use Rattle.std.proofs.Common.{◌≡◌, ℕ, true, List, [], ◌∷◌, ◌++◌, refl, arith, pos}
use Rattle.std.specs.Prelude.{◌≤ℤ◌, ◌+ℤ◌}
use Rattle.std.proofs.lemmas.Int.{ints}
use Rattle.rules_data.specs.types.Kind.{Kind}
use Rattle.rules_data.specs.types.Kind as k
use Rattle.rules_data.specs.types.Attributes.{comparable}
use Rattle.rules_data.specs.values.Val.{Val, Vals, no_val, more_vals, Pairs, no_pair, more_pairs}
use Rattle.rules_data.specs.values.Val as v
use Rattle.rules_data.specs.values.Forms.{AllHave, AllEntriesHave}
use Rattle.rules_data.specs.values.Tickets.{Identity, tickets, all_tickets, pair_tickets}
use Rattle.rules_code.specs.steps.Changes.{amount_in, amount_among}
use Rattle.rules_code.specs.typing.Typing.{Typer, goes, ends}
use Rattle.rules_code.specs.typing.Fits.{Known, Fits}
use Rattle.rules_code.specs.typing.Stacks as asked
use Rattle.rules_code.specs.evaluation.Surroundings.{Surroundings}
use Rattle.rules_code.specs.evaluation.Operations.{Tally}
use Rattle.rules_code.specs.evaluation.Outcome.{Run}
use Rattle.rules_code.specs.evaluation.Items.{elements, entries}
use Rattle.rules_code.specs.evaluation.Loops.{each_run, iter_run}
use Rattle.laws_code.specs.evaluation.Laws.{known, IsType, IsGood, amount_on}
use Rattle.laws_code.specs.stacks.Sound.{seen, total, Sound, KeepsFrom, SafeRun}
use Rattle.laws_data.proofs.amounts.ForCallers.{among_append}
use Rattle.laws_code.proofs.stacks.ForCallers.{on-append, positive, no_amount_compared, Knows, fits_grow, knows_grow, sound_after, after_still, keeps_from, keeps_ends, keeps_end, sound_pop, keeps_charge, type_list, type_element, type_entry}

-- values of one type
abbrev pub Each : Known → Kind → List Val → Type 0
Each w a [] = Unit {0}
Each w a (x ∷ xs) = Fits w a x × Each w a xs

pub each_positive : (id : Identity) (w : Known) (a : Kind) (xs : List Val) → Each w a xs → pos 0 ≤ℤ amount_on id xs
each_positive id w a [] h = omega (arith, ints)
each_positive id w a (x ∷ xs) h =
    let p : pos 0 ≤ℤ amount_in id x = positive id w a x h.0 in
    let q : pos 0 ≤ℤ amount_on id xs = each_positive id w a xs h.1 in
    omega (arith, ints)

pub each_grow : (w u : Known) → Knows w u → (a : Kind) (xs : List Val) → Each w a xs → Each u a xs
each_grow w u g a [] h = tt
each_grow w u g a (x ∷ xs) h = (fits_grow w u g a x h.0, each_grow w u g a xs h.1)

pub each_last : (w : Known) (a : Kind) (xs : List Val) (y : Val) → Each w a xs → Fits w a y → Each w a (xs ++ y ∷ [])
each_last w a [] y h i = (i, tt)
each_last w a (x ∷ xs) y h i = (h.0, each_last w a xs y h.1 i)

-- ---- the items of collections

pub each_element : (w : Known) (a : Kind) (xs : Vals) → AllHave (Fits w a) xs → Each w a (elements xs)
each_element w a no_val h = tt
each_element w a (more_vals x xs) h = (h.0, each_element w a xs h.1)

pub each_entry : (w : Known) (a b : Kind) (es : Pairs) → AllEntriesHave (Fits w a) (Fits w b) es →
    Each w (k.pair a b) (entries es)
each_entry w a b no_pair h = tt
each_entry w a b (more_pairs x y es) h = ((h.0, h.1), each_entry w a b es h.2)

pub element_amount : (id : Identity) (xs : Vals) → amount_on id (elements xs) ≡ amount_among id (all_tickets xs)
element_amount id no_val = refl
element_amount id (more_vals x xs) = let h : amount_on id (elements xs) ≡ amount_among id (all_tickets xs) =
    element_amount id xs in omega (arith, ints, among_append id (tickets x) (all_tickets xs))

compared_amount : (id : Identity) (w : Known) (a : Kind) (xs : Vals) → comparable a ≡ true → AllHave (Fits w a) xs →
    amount_on id (elements xs) ≡ pos 0
compared_amount id w a no_val c h = refl
compared_amount id w a (more_vals x xs) c h =
    let i : amount_on id (elements xs) ≡ pos 0 = compared_amount id w a xs c h.1 in
    let j : amount_in id x ≡ pos 0 = no_amount_compared id w a x c h.0 in
    omega (arith, ints)

pub entry_amount : (id : Identity) (w : Known) (a b : Kind) (es : Pairs) → comparable a ≡ true →
    AllEntriesHave (Fits w a) (Fits w b) es → amount_on id (entries es) ≡ amount_among id (pair_tickets es)
entry_amount id w a b no_pair c h = refl
entry_amount id w a b (more_pairs x y es) c h =
    let i : amount_on id (entries es) ≡ amount_among id (pair_tickets es) = entry_amount id w a b es c h.2 in
    let j : amount_in id x ≡ pos 0 = no_amount_compared id w a x c h.0 in
    omega (arith, ints, among_append id (tickets x) (tickets y), among_append id (tickets y) (pair_tickets es))

-- ---- ITER

module _ (b : Typer) (r : Run) (sr : SafeRun b r) (e : Surroundings) (d : ℕ) (g : IsGood e) where
  safe_each : (a : Kind) (xs : List Val) (A : List Kind) (V : List Val) (m : Tally) → IsType a →
      Sound (seen e) m.issued m.changes A V → Each (known e.contract_at m.issued) a xs →
      ((id : Identity) → amount_on id (xs ++ V) ≤ℤ total (seen e) m.changes id) →
      KeepsFrom (seen e) m.issued m.changes (xs ++ V) (ends (b e.context (a ∷ A)) A (goes A)) (each_run r a xs e d A V m)
  safe_each a [] A V m ty so h room = keeps_end (seen e) m.issued m.changes V (b e.context (a ∷ A)) A A V m
      (after_still A A V m so so.fit (λ id. omega (arith, ints)))
  safe_each a (x ∷ xs) A V m ty so h room =
      let K : Known = known e.contract_at m.issued in
      let with : Sound (seen e) m.issued m.changes (a ∷ A) (x ∷ V) = record {
        types = (ty, so.types);
        fit = (h.0, so.fit);
        below = λ id. let p : pos 0 ≤ℤ amount_on id xs = each_positive id K a xs h.1 in
            let q : amount_on id (x ∷ (xs ++ V)) ≤ℤ total (seen e) m.changes id = room id in
            omega (arith, ints, on-append id xs V);
        most = so.most;
        mints = so.mints;
      } in
      keeps_charge (seen e) m (x ∷ (xs ++ V)) _ e.prices _ 0 _ (λ i.
      keeps_from (seen e) m.issued m.changes (xs ++ (x ∷ V)) (x ∷ (xs ++ V)) _ _
      (λ id. omega (arith, ints, on-append id xs (x ∷ V), on-append id xs V))
      (keeps_ends (seen e) m.issued m.changes xs (x ∷ V) (b e.context (a ∷ A)) A (goes A)
      (r e d (a ∷ A) (x ∷ V) (record m { gas = i })) (λ B W n. each_run r a xs e d B W n)
      (sr e d (a ∷ A) (x ∷ V) (record m { gas = i }) g with)
      (λ W n f. safe_each a xs A W n ty (sound_after (a ∷ A) A W n with so.types f)
      (each_grow K (known e.contract_at n.issued) (knows_grow (seen e) m.issued n.issued f.grows) a xs h.1)
      (λ id. let q : amount_on id (x ∷ (xs ++ V)) ≤ℤ total (seen e) m.changes id = room id in
      let t : (amount_on id W +ℤ total (seen e) m.changes id) ≤ℤ (amount_on id (x ∷ V) +ℤ total (seen e) n.changes id) =
      f.tickets id in omega (arith, ints, on-append id xs V, on-append id xs W)))))

  iterates : (c a : Kind) (x : Val) (xs : List Val) (A : List Kind) (V : List Val) (m : Tally) → IsType a →
      Sound (seen e) m.issued m.changes (c ∷ A) (x ∷ V) → Each (known e.contract_at m.issued) a xs →
      ((id : Identity) → amount_on id xs ≡ amount_in id x) → KeepsFrom (seen e) m.issued m.changes (x ∷ V)
      (ends (b e.context (a ∷ A)) A (goes A)) (each_run r a xs e d A V m)
  iterates c a x xs A V m ty so h same =
      keeps_from (seen e) m.issued m.changes (xs ++ V) (x ∷ V) _ _
      (λ id. let q : amount_on id xs ≡ amount_in id x = same id in omega (arith, ints, on-append id xs V))
      (safe_each a xs A V m ty (sound_pop (seen e) m.issued m.changes c A x V so) h
      (λ id. let q : amount_on id xs ≡ amount_in id x = same id in
      let l : amount_on id (x ∷ V) ≤ℤ total (seen e) m.changes id = so.below id in omega (arith, ints, on-append id xs V)))

  pub safe_iter : (A : List Kind) (V : List Val) (m : Tally) → Sound (seen e) m.issued m.changes A V →
      KeepsFrom (seen e) m.issued m.changes V (asked.on_parts A (λ a A. ends (b e.context (a ∷ A)) A (goes A)))
      (iter_run r e d A V m)
  safe_iter (k.list a ∷ A) (v.list xs ∷ V) m so =
      keeps_charge (seen e) m (v.list xs ∷ V) _ e.prices _ 0 _
      (λ i. iterates (k.list a) a (v.list xs) (elements xs) A V (record m { gas = i }) (type_list a so.types.0) so
      (each_element (known e.contract_at m.issued) a xs so.fit.0) (λ id. element_amount id xs))
  safe_iter (k.set a ∷ A) (v.set xs ∷ V) m so =
      keeps_charge (seen e) m (v.set xs ∷ V) _ e.prices _ 0 _
      (λ i. iterates (k.set a) a (v.set xs) (elements xs) A V (record m { gas = i }) (type_element a so.types.0) so
      (each_element (known e.contract_at m.issued) a xs so.fit.0.0)
      (λ id. compared_amount id (known e.contract_at m.issued) a xs so.types.0.0.0 so.fit.0.0))
  safe_iter (k.map a c ∷ A) (v.table es ∷ V) m so =
      keeps_charge (seen e) m (v.table es ∷ V) _ e.prices _ 0 _
      (λ i. iterates (k.map a c) (k.pair a c) (v.table es) (entries es) A V (record m { gas = i })
      (type_entry a c so.types.0) so
      (each_entry (known e.contract_at m.issued) a c es so.fit.0.0)
      (λ id. entry_amount id (known e.contract_at m.issued) a c es so.types.0.0.0 so.fit.0.0))
  safe_iter (k.list a ∷ A) [] m so = absurd so.fit
  safe_iter (k.list a ∷ A) (x ∷ V) m so = absurd so.fit.0
  safe_iter (k.set a ∷ A) [] m so = absurd so.fit
  safe_iter (k.set a ∷ A) (x ∷ V) m so = absurd so.fit.0
  safe_iter (k.map a c ∷ A) [] m so = absurd so.fit
  safe_iter (k.map a c ∷ A) (x ∷ V) m so = absurd so.fit.0
  safe_iter A V m so = tt
