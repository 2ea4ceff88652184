-- Maps and big maps, and all instructions on collections.
use Rattle.std.proofs.Common.{◌≡◌, ℕ, Bool, true, false, ◌&&◌, List, [], ◌∷◌, Option, Some, None, refl, subst, arith, pos}
use Rattle.std.specs.Prelude.{◌+ℤ◌, ◌≤ℤ◌, ℤ, option_to_list, is_some, if◌then◌else◌, int_le, neg_ℤ, ◌-◌, ◌^◌, Ok, Err}
use Rattle.std.specs.List.{flat_map}
use Rattle.std.proofs.lemmas.Int.{ints}
use Rattle.std.proofs.lemmas.Bool.{and_parts, and_from}
use Rattle.rules_data.specs.types.Kind.{Kind}
use Rattle.rules_data.specs.types.Kind as k
use Rattle.rules_data.specs.types.Attributes.{duplicable}
use Rattle.rules_code.specs.instructions.Types as ty
use Rattle.rules_code.specs.instructions.Same.{same_kind}
use Rattle.rules_code.specs.instructions.Change.{makes, keeps, where_true}
use Rattle.rules_code.specs.instructions.DataChanges.{collection_change}
use Rattle.rules_code.specs.instructions.Straight.{CollectionRow}
use Rattle.rules_code.specs.instructions.Straight as i
use Rattle.rules_data.specs.values.Val.{Val, Vals, Pairs}
use Rattle.rules_data.specs.values.Val as v
use Rattle.rules_data.specs.values.Forms.{AllEntriesHave}
use Rattle.rules_data.specs.values.Tables.{value_at, without_key, AreIncreasingKeys}
use Rattle.rules_data.specs.values.Tickets.{Identity, tickets}
use Rattle.rules_code.specs.steps.Changes.{amount_in}
use Rattle.rules_code.specs.steps.Sets.{has_element, element_count, entry_count}
use Rattle.rules_data.specs.numbers.Limits.{integer_limit, is_int, int_or_limit}
use Rattle.rules_data.specs.values.Literals.{is_nat}
use Rattle.rules_code.specs.steps.Changes as c
use Rattle.rules_code.specs.steps.Step.{Step, done, kept, optional, within_limit}
use Rattle.rules_code.specs.steps.Collections.{set_with, map_with, on_option, updated, exchanged, collection_step}
use Rattle.rules_code.specs.typing.Fits.{Known, Fits, AllFit}
use Rattle.laws_data.proofs.types_lemmas.ForCallers.{same_kind_true}
use Rattle.laws_code.proofs.stacks.ForCallers.{positive, entries_positive, no_amount, one_good}
use Rattle.laws_data.proofs.amounts.ForCallers.{with_increasing, without_increasing, with_entries, without_entries, OptionHas, value_has, amount_held_in, amount_if, with_amount, without_amount}
use Rattle.laws_code.proofs.steps.Steps.{Quiet, quiet_none, quiet_burns, RowStep, StepFits}
use Rattle.laws_code.proofs.steps.SetRows.{set_fits}
use Rattle.std.specs.List.{All}
use Rattle.std.proofs.lemmas.List.Elements.{All-nil}
use Rattle.rules_world.specs.world.Forms.{IsTicket}

-- ---- maps

abbrev EntriesFit : Known → Kind → Kind → Pairs → Type 0
EntriesFit w a b ps = AllEntriesHave (Fits w a) (Fits w b) ps × AreIncreasingKeys ps

map_fits : (w : Known) (a b : Kind) (x : Val) (new : Option Val) (ps : Pairs) → Fits w a x → OptionHas (Fits w b) new →
    EntriesFit w a b ps → EntriesFit w a b (map_with x new ps)
map_fits w a b x (Some y) ps f g h = (with_entries (Fits w a) (Fits w b) x y ps f g h.0, with_increasing x y ps h.1)
map_fits w a b x None ps f g h = (without_entries (Fits w a) (Fits w b) x ps h.0, without_increasing x ps h.1)

if_positive : (id : Identity) (w : Known) (b : Kind) (o : Option Val) → OptionHas (Fits w b) o → pos 0 ≤ℤ amount_if id o
if_positive id w b None h = omega (arith, ints)
if_positive id w b (Some x) h = positive id w b x h

-- what is put in and what was there are what there is and what was taken
map_amount : (id : Identity) (x : Val) (new : Option Val) (ps : Pairs) → AreIncreasingKeys ps →
    (amount_held_in id (map_with x new ps) +ℤ amount_if id (value_at x ps)) ≡ (amount_if id new +ℤ amount_held_in id ps)
map_amount id x (Some y) ps h = with_amount id x y ps h
map_amount id x None ps h = let q : (amount_held_in id (without_key x ps) +ℤ amount_if id (value_at x ps)) ≡ amount_held_in id
    ps = without_amount id x ps in omega (arith, ints)

optional_fits : (w : Known) (b : Kind) (o : Option Val) → OptionHas (Fits w b) o → Fits w (k.option b) (optional o)
optional_fits w b None h = tt
optional_fits w b (Some x) h = h

optional_amount : (id : Identity) (o : Option Val) → amount_in id (optional o) ≡ amount_if id o
optional_amount id None = refl
optional_amount id (Some x) = refl

if_good : (w : Known) (b : Kind) (o : Option Val) → OptionHas (Fits w b) o → All IsTicket (flat_map tickets (option_to_list o))
if_good w b None h = All-nil IsTicket
if_good w b (Some y) h = one_good w b y h

-- maps and big maps alike
module _ (w : Known) (made : Pairs → Val) (c a b : Kind) (fits : (ps : Pairs) → EntriesFit w a b ps → Fits w c (made ps))
    (same : (id : Identity) (ps : Pairs) → amount_in id (made ps) ≡ amount_held_in id ps)
    (A : List Kind) (V : List Val) (x : Val) (ps : Pairs) (fx : Fits w a x) (es : EntriesFit w a b ps) (fA : AllFit w A V) where
  old_fits : OptionHas (Fits w b) (value_at x ps)
  old_fits = value_has (Fits w a) (Fits w b) x ps es.0

  updates : (new : Option Val) (y : Val) → OptionHas (Fits w b) new → ((id : Identity) → amount_in id y ≡ amount_if id new) →
      RowStep w (x ∷ y ∷ made ps ∷ V) (c ∷ A) (updated made x ps V new)
  updates new y g n = (
    (fits (map_with x new ps) (map_fits w a b x new ps fx g es), fA),
    (λ id.
        let p : pos 0 ≤ℤ amount_if id (value_at x ps) = if_positive id w b (value_at x ps) old_fits in
        let q : (amount_held_in id (map_with x new ps) +ℤ amount_if id (value_at x ps)) ≡
        (amount_if id new +ℤ amount_held_in id ps) = map_amount id x new ps es.1 in
        let r : amount_in id y ≡ amount_if id new = n id in
        let t : pos 0 ≤ℤ amount_in id x = positive id w a x fx in
        omega (arith, ints, same id (map_with x new ps), same id ps)),
    quiet_burns (flat_map tickets (option_to_list (value_at x ps))) (if_good w b (value_at x ps) old_fits),
  )

  exchanges : (new : Option Val) (y : Val) → OptionHas (Fits w b) new → ((id : Identity) → amount_in id y ≡ amount_if id new) →
      RowStep w (x ∷ y ∷ made ps ∷ V) (k.option b ∷ c ∷ A) (exchanged made x ps V new)
  exchanges new y g n = (
    (optional_fits w b (value_at x ps) old_fits, (fits (map_with x new ps) (map_fits w a b x new ps fx g es), fA)),
    (λ id.
        let q : (amount_held_in id (map_with x new ps) +ℤ amount_if id (value_at x ps)) ≡
        (amount_if id new +ℤ amount_held_in id ps) = map_amount id x new ps es.1 in
        let r : amount_in id y ≡ amount_if id new = n id in
        let t : pos 0 ≤ℤ amount_in id x = positive id w a x fx in
        omega (arith, ints, same id (map_with x new ps), same id ps, optional_amount id (value_at x ps))),
    quiet_none,
  )

  by_option : (y : Val) (B : List Kind) (go : Option Val → Step) → Fits w (k.option b) y →
      ((new : Option Val) → OptionHas (Fits w b) new → ((id : Identity) → amount_in id y ≡ amount_if id new) →
      RowStep w (x ∷ y ∷ made ps ∷ V) B (go new)) →
      RowStep w (x ∷ y ∷ made ps ∷ V) B (on_option y go)
  by_option v.nothing B go f r = r None tt (λ id. refl)
  by_option (v.some y) B go f r = r (Some y) f (λ id. refl)
  by_option y B go f r = absurd f

  pub update_keeps : (j u : Kind) (y : Val) → Fits w (k.option u) y → (q : Bool) → (q ≡ true → u ≡ b) →
      StepFits w (x ∷ y ∷ made ps ∷ V) (where_true q (keeps (c ∷ A))) (on_option y (updated made x ps V))
  update_keeps j u y f true e = by_option y (c ∷ A) (updated made x ps V) (subst (λ z. Fits w (k.option z) y) (e refl) f)
      (λ new g n. updates new y g n)
  update_keeps j u y f false e = tt

  pub exchange_keeps : (j u : Kind) (y : Val) → Fits w (k.option u) y → (q : Bool) → (q ≡ true → u ≡ b) →
      StepFits w (x ∷ y ∷ made ps ∷ V) (where_true q (makes (k.option b) (c ∷ A))) (on_option y (exchanged made x ps V))
  exchange_keeps j u y f true e = by_option y (k.option b ∷ c ∷ A) (exchanged made x ps V)
      (subst (λ z. Fits w (k.option z) y) (e refl) f) (λ new g n. exchanges new y g n)
  exchange_keeps j u y f false e = tt

  pub get_keeps : (q : Bool) → duplicable b ≡ q → StepFits w (x ∷ made ps ∷ V) (where_true q (makes (k.option b) A))
      (kept (optional (value_at x ps) ∷ V))
  get_keeps true d = (
    (optional_fits w b (value_at x ps) old_fits, fA),
    (λ id.
        let p : amount_if id (value_at x ps) ≡ pos 0 = none_if id (value_at x ps) old_fits in
        let t : pos 0 ≤ℤ amount_in id x = positive id w a x fx in
        let r : pos 0 ≤ℤ amount_held_in id ps = entries_positive id (Fits w a) (Fits w b) (positive id w b) ps es.0 in
        omega (arith, ints, same id ps, optional_amount id (value_at x ps))),
    quiet_none,
  )
    where
      none_if : (id : Identity) (o : Option Val) → OptionHas (Fits w b) o → amount_if id o ≡ pos 0
      none_if id None h = refl
      none_if id (Some y) h = no_amount id w b y d h
  get_keeps false d = tt

not_negative : (n : ℕ) → int_le (pos 0) (pos n) ≡ true
not_negative n = grind (arith, ints)

-- a count within the limit is a nat
sized : (w : Known) (n : ℕ) (V W : List Val) (A : List Kind) (go : ℤ → Step) →
    ((q : is_nat (pos n) ≡ true) → RowStep w V A (go (pos n))) → RowStep w V A (within_limit (int_or_limit (pos n)) go)
unfolding int_or_limit
sized w n V W A go h = by_test (is_int (pos n)) refl
  where
    by_test : (b : Bool) → is_int (pos n) ≡ b → RowStep w V A (within_limit (if b then Ok (pos n) else Err integer_limit) go)
    by_test true q = h (and_from (int_le (pos 0) (pos n)) (int_le (pos n) (pos (2 ^ 127 - 1))) (not_negative n)
        (and_parts (int_le (neg_ℤ (pos (2 ^ 127))) (pos n)) (int_le (pos n) (pos (2 ^ 127 - 1))) q).1)
    by_test false q = tt

key_is : (w : Known) (j a : Kind) (x : Val) → same_kind j a ≡ true → Fits w j x → Fits w a x
key_is w j a x e f = subst (λ z. Fits w z x) (same_kind_true j a e) f

module _ (w : Known) where
  -- members, of sets and maps alike
  has_keeps : (j : Kind) (A : List Kind) (x y : Val) (V : List Val) (b : Bool) (cs : List c.Change) → Quiet cs →
      Fits w j x → ((id : Identity) → pos 0 ≤ℤ amount_in id y) → AllFit w A V → (q : Bool) →
      StepFits w (x ∷ y ∷ V) (where_true q (makes ty.bool A)) (done (v.truth b ∷ V) cs)
  has_keeps j A x y V b cs m f p h true = (
    (refl, h),
    (λ id. let q : pos 0 ≤ℤ amount_in id x = positive id w j x f in let r : pos 0 ≤ℤ amount_in id y = p id in
        omega (arith, ints)),
    m,
  )
  has_keeps j A x y V b cs m f p h false = tt

  set_updates : (j a : Kind) (A : List Kind) (x : Val) (b : Bool) (xs : Vals) (V : List Val) →
      AllFit w (j ∷ ty.bool ∷ k.set a ∷ A) (x ∷ v.truth b ∷ v.set xs ∷ V) → (q : Bool) → same_kind j a ≡ q →
      StepFits w (x ∷ v.truth b ∷ v.set xs ∷ V) (where_true q (keeps (k.set a ∷ A))) (kept (v.set (set_with b x xs) ∷ V))
  set_updates j a A x b xs V h true e = (
    (set_fits w a b x xs (key_is w j a x e h.0) h.1.1.0, h.1.1.1),
    (λ id. let q : pos 0 ≤ℤ amount_in id x = positive id w j x h.0 in omega (arith, ints)),
    quiet_none,
  )
  set_updates j a A x b xs V h false e = tt

  map_of : (a b : Kind) (ps : Pairs) → EntriesFit w a b ps → Fits w (k.map a b) (v.table ps)
  map_of a b ps h = h

  big_map_of : (a b : Kind) (ps : Pairs) → EntriesFit w a b ps → Fits w (k.big_map a b) (v.big_table ps)
  big_map_of a b ps h = h

  pub collection_keeps : (r : CollectionRow) (A : List Kind) (V : List Val) → AllFit w A V →
      StepFits w V (collection_change r A) (collection_step r V)
  collection_keeps (i.empty_set a) A V h = (((tt, tt), h), (λ id. omega (arith, ints)), quiet_none)
  collection_keeps (i.empty_map a b) A V h = (((tt, tt), h), (λ id. omega (arith, ints)), quiet_none)
  collection_keeps (i.empty_big_map a b) A V h = (((tt, tt), h), (λ id. omega (arith, ints)), quiet_none)
  collection_keeps i.size_list (k.list a ∷ A) (v.list xs ∷ V) h =
      sized w (element_count xs) (v.list xs ∷ V) V (ty.nat ∷ A) _
      (λ q. (
        (q, h.1),
        (λ id. let p : pos 0 ≤ℤ amount_in id (v.list xs) = positive id w (k.list a) (v.list xs) h.0 in
            omega (arith, ints)),
        quiet_burns (flat_map tickets (v.list xs ∷ [])) (one_good w (k.list a) (v.list xs) h.0),
      ))
  collection_keeps i.size_list (k.list a ∷ A) (x ∷ V) h = absurd h.0
  collection_keeps i.size_list (k.list a ∷ A) [] h = absurd h
  collection_keeps i.size_set (k.set a ∷ A) (v.set xs ∷ V) h = sized w (element_count xs) (v.set xs ∷ V) V (ty.nat ∷ A) _
      (λ q. ((q, h.1), (λ id. omega (arith, ints)), quiet_none))
  collection_keeps i.size_set (k.set a ∷ A) (x ∷ V) h = absurd h.0
  collection_keeps i.size_set (k.set a ∷ A) [] h = absurd h
  collection_keeps i.size_map (k.map a b ∷ A) (v.table ps ∷ V) h =
      sized w (entry_count ps) (v.table ps ∷ V) V (ty.nat ∷ A) _
      (λ q. (
        (q, h.1),
        (λ id. let p : pos 0 ≤ℤ amount_in id (v.table ps) = positive id w (k.map a b) (v.table ps) h.0 in
            omega (arith, ints)),
        quiet_burns (flat_map tickets (v.table ps ∷ [])) (one_good w (k.map a b) (v.table ps) h.0),
      ))
  collection_keeps i.size_map (k.map a b ∷ A) (x ∷ V) h = absurd h.0
  collection_keeps i.size_map (k.map a b ∷ A) [] h = absurd h
  collection_keeps i.mem_set (j ∷ k.set a ∷ A) (x ∷ v.set xs ∷ V) h = has_keeps j A x (v.set xs) V
      (has_element x xs) [] quiet_none h.0 (λ id. positive id w (k.set a) (v.set xs) h.1.0) h.1.1 (same_kind j a)
  collection_keeps i.mem_set (j ∷ k.set a ∷ A) (x ∷ y ∷ V) h = absurd h.1.0
  collection_keeps i.mem_set (j ∷ k.set a ∷ A) (x ∷ []) h = absurd h.1
  collection_keeps i.mem_set (j ∷ k.set a ∷ A) [] h = absurd h
  collection_keeps i.mem_map (j ∷ k.map a b ∷ A) (x ∷ v.table ps ∷ V) h =
      has_keeps j A x (v.table ps) V (is_some (value_at x ps)) _
      (quiet_burns (flat_map tickets (v.table ps ∷ [])) (one_good w (k.map a b) (v.table ps) h.1.0)) h.0
      (λ id. positive id w (k.map a b) (v.table ps) h.1.0) h.1.1 (same_kind j a)
  collection_keeps i.mem_map (j ∷ k.map a b ∷ A) (x ∷ y ∷ V) h = absurd h.1.0
  collection_keeps i.mem_map (j ∷ k.map a b ∷ A) (x ∷ []) h = absurd h.1
  collection_keeps i.mem_map (j ∷ k.map a b ∷ A) [] h = absurd h
  collection_keeps i.mem_big_map (j ∷ k.big_map a b ∷ A) (x ∷ v.big_table ps ∷ V) h =
      has_keeps j A x (v.big_table ps) V (is_some (value_at x ps)) _
      (quiet_burns (flat_map tickets (v.big_table ps ∷ [])) (one_good w (k.big_map a b) (v.big_table ps) h.1.0)) h.0
      (λ id. positive id w (k.big_map a b) (v.big_table ps) h.1.0) h.1.1 (same_kind j a)
  collection_keeps i.mem_big_map (j ∷ k.big_map a b ∷ A) (x ∷ y ∷ V) h = absurd h.1.0
  collection_keeps i.mem_big_map (j ∷ k.big_map a b ∷ A) (x ∷ []) h = absurd h.1
  collection_keeps i.mem_big_map (j ∷ k.big_map a b ∷ A) [] h = absurd h
  collection_keeps i.get_map (j ∷ k.map a b ∷ A) (x ∷ v.table ps ∷ V) h = by_test (same_kind j a) refl
    where
      by_test : (q : Bool) → same_kind j a ≡ q → StepFits w (x ∷ v.table ps ∷ V)
          (where_true q (where_true (duplicable b) (makes (k.option b) A))) (kept (optional (value_at x ps) ∷ V))
      by_test true e = get_keeps w v.table (k.map a b) a b (map_of a b) (λ id ps. refl) A V x ps
          (key_is w j a x e h.0) h.1.0 h.1.1 (duplicable b) refl
      by_test false e = tt
  collection_keeps i.get_map (j ∷ k.map a b ∷ A) (x ∷ y ∷ V) h = absurd h.1.0
  collection_keeps i.get_map (j ∷ k.map a b ∷ A) (x ∷ []) h = absurd h.1
  collection_keeps i.get_map (j ∷ k.map a b ∷ A) [] h = absurd h
  collection_keeps i.get_big_map (j ∷ k.big_map a b ∷ A) (x ∷ v.big_table ps ∷ V) h = by_test (same_kind j a) refl
    where
      by_test : (q : Bool) → same_kind j a ≡ q → StepFits w (x ∷ v.big_table ps ∷ V)
          (where_true q (where_true (duplicable b) (makes (k.option b) A))) (kept (optional (value_at x ps) ∷ V))
      by_test true e = get_keeps w v.big_table (k.big_map a b) a b (big_map_of a b) (λ id ps. refl) A V x ps
          (key_is w j a x e h.0) h.1.0 h.1.1 (duplicable b) refl
      by_test false e = tt
  collection_keeps i.get_big_map (j ∷ k.big_map a b ∷ A) (x ∷ y ∷ V) h = absurd h.1.0
  collection_keeps i.get_big_map (j ∷ k.big_map a b ∷ A) (x ∷ []) h = absurd h.1
  collection_keeps i.get_big_map (j ∷ k.big_map a b ∷ A) [] h = absurd h
  collection_keeps i.update_set (j ∷ ty.bool ∷ k.set a ∷ A) (x ∷ v.truth b ∷ v.set xs ∷ V) h = set_updates j a A x b xs V h
      (same_kind j a) refl
  collection_keeps i.update_set (j ∷ ty.bool ∷ k.set a ∷ A) (x ∷ v.truth b ∷ y ∷ V) h = absurd h.1.1.0
  collection_keeps i.update_set (j ∷ ty.bool ∷ k.set a ∷ A) (x ∷ y ∷ []) h = absurd h.1.1
  collection_keeps i.update_set (j ∷ ty.bool ∷ k.set a ∷ A) (x ∷ y ∷ V) h = let g = h.1.0 in absurd cc
  collection_keeps i.update_set (j ∷ ty.bool ∷ k.set a ∷ A) (x ∷ []) h = absurd h.1
  collection_keeps i.update_set (j ∷ ty.bool ∷ k.set a ∷ A) [] h = absurd h
  collection_keeps i.update_map (j ∷ k.option u ∷ k.map a b ∷ A) (x ∷ y ∷ v.table ps ∷ V) h = by_test
      (same_kind j a && same_kind u b) refl
    where
      by_test : (q : Bool) → (same_kind j a && same_kind u b) ≡ q →
          StepFits w (x ∷ y ∷ v.table ps ∷ V) (where_true q (keeps (k.map a b ∷ A))) (on_option y (updated v.table x ps V))
      by_test true e =
          let es = and_parts (same_kind j a) (same_kind u b) e in
          update_keeps w v.table (k.map a b) a b (map_of a b) (λ id ps. refl) A V x ps
          (key_is w j a x es.0 h.0) h.1.1.0 h.1.1.1 j u y h.1.0 true (λ _. same_kind_true u b es.1)
      by_test false e = tt
  collection_keeps i.update_map (j ∷ k.option u ∷ k.map a b ∷ A) (x ∷ y ∷ z ∷ V) h = absurd h.1.1.0
  collection_keeps i.update_map (j ∷ k.option u ∷ k.map a b ∷ A) (x ∷ y ∷ []) h = absurd h.1.1
  collection_keeps i.update_map (j ∷ k.option u ∷ k.map a b ∷ A) (x ∷ []) h = absurd h.1
  collection_keeps i.update_map (j ∷ k.option u ∷ k.map a b ∷ A) [] h = absurd h
  collection_keeps i.update_big_map (j ∷ k.option u ∷ k.big_map a b ∷ A) (x ∷ y ∷ v.big_table ps ∷ V) h = by_test
      (same_kind j a && same_kind u b) refl
    where
      by_test : (q : Bool) → (same_kind j a && same_kind u b) ≡ q →
          StepFits w (x ∷ y ∷ v.big_table ps ∷ V) (where_true q (keeps (k.big_map a b ∷ A)))
          (on_option y (updated v.big_table x ps V))
      by_test true e =
          let es = and_parts (same_kind j a) (same_kind u b) e in
          update_keeps w v.big_table (k.big_map a b) a b (big_map_of a b) (λ id ps. refl) A V x ps
          (key_is w j a x es.0 h.0) h.1.1.0 h.1.1.1 j u y h.1.0 true (λ _. same_kind_true u b es.1)
      by_test false e = tt
  collection_keeps i.update_big_map (j ∷ k.option u ∷ k.big_map a b ∷ A) (x ∷ y ∷ z ∷ V) h = absurd h.1.1.0
  collection_keeps i.update_big_map (j ∷ k.option u ∷ k.big_map a b ∷ A) (x ∷ y ∷ []) h = absurd h.1.1
  collection_keeps i.update_big_map (j ∷ k.option u ∷ k.big_map a b ∷ A) (x ∷ []) h = absurd h.1
  collection_keeps i.update_big_map (j ∷ k.option u ∷ k.big_map a b ∷ A) [] h = absurd h
  collection_keeps i.get_and_update_map (j ∷ k.option u ∷ k.map a b ∷ A) (x ∷ y ∷ v.table ps ∷ V) h = by_test
      (same_kind j a && same_kind u b) refl
    where
      by_test : (q : Bool) → (same_kind j a && same_kind u b) ≡ q →
          StepFits w (x ∷ y ∷ v.table ps ∷ V) (where_true q (makes (k.option b) (k.map a b ∷ A)))
          (on_option y (exchanged v.table x ps V))
      by_test true e =
          let es = and_parts (same_kind j a) (same_kind u b) e in
          exchange_keeps w v.table (k.map a b) a b (map_of a b) (λ id ps. refl) A V x ps
          (key_is w j a x es.0 h.0) h.1.1.0 h.1.1.1 j u y h.1.0 true (λ _. same_kind_true u b es.1)
      by_test false e = tt
  collection_keeps i.get_and_update_map (j ∷ k.option u ∷ k.map a b ∷ A) (x ∷ y ∷ z ∷ V) h = absurd h.1.1.0
  collection_keeps i.get_and_update_map (j ∷ k.option u ∷ k.map a b ∷ A) (x ∷ y ∷ []) h = absurd h.1.1
  collection_keeps i.get_and_update_map (j ∷ k.option u ∷ k.map a b ∷ A) (x ∷ []) h = absurd h.1
  collection_keeps i.get_and_update_map (j ∷ k.option u ∷ k.map a b ∷ A) [] h = absurd h
  collection_keeps i.get_and_update_big_map (j ∷ k.option u ∷ k.big_map a b ∷ A) (x ∷ y ∷ v.big_table ps ∷ V) h = by_test
      (same_kind j a && same_kind u b) refl
    where
      by_test : (q : Bool) → (same_kind j a && same_kind u b) ≡ q →
          StepFits w (x ∷ y ∷ v.big_table ps ∷ V) (where_true q (makes (k.option b) (k.big_map a b ∷ A)))
          (on_option y (exchanged v.big_table x ps V))
      by_test true e =
          let es = and_parts (same_kind j a) (same_kind u b) e in
          exchange_keeps w v.big_table (k.big_map a b) a b (big_map_of a b) (λ id ps. refl) A V x ps
          (key_is w j a x es.0 h.0) h.1.1.0 h.1.1.1 j u y h.1.0 true (λ _. same_kind_true u b es.1)
      by_test false e = tt
  collection_keeps i.get_and_update_big_map (j ∷ k.option u ∷ k.big_map a b ∷ A) (x ∷ y ∷ z ∷ V) h = absurd h.1.1.0
  collection_keeps i.get_and_update_big_map (j ∷ k.option u ∷ k.big_map a b ∷ A) (x ∷ y ∷ []) h = absurd h.1.1
  collection_keeps i.get_and_update_big_map (j ∷ k.option u ∷ k.big_map a b ∷ A) (x ∷ []) h = absurd h.1
  collection_keeps i.get_and_update_big_map (j ∷ k.option u ∷ k.big_map a b ∷ A) [] h = absurd h
  collection_keeps _ _ V h = tt
