-- What a loaded log mints and burns of each ticket.
use Rattle.std.proofs.Common.{◌≡◌, ◌⊎◌, inl, inr, ℕ, List, [], ◌∷◌, ◌++◌, refl, sym, ap, ◌∙◌, map, true, false, Bool, Option, Some, None, cond, arith, subst}
use Rattle.std.specs.Prelude.{ℤ, pos, ◌+ℤ◌, ◌-ℤ◌, ◌≤ℤ◌, int_lt, unwrap_or, if◌then◌else◌}
use Rattle.std.specs.declared.cmp.Ordering.{Ordering}
use Rattle.std.specs.declared.cmp.Ordering.TheVariants.{Less, Equal}
use Rattle.std.specs.Ordering.{is_eq}
use Rattle.std.specs.BTreeMap.{is_at}
use Rattle.std.specs.Map.{lookup, keys_of}
use Rattle.std.specs.List.{flat_map, All, AllByRecursion}
use Rattle.std.specs.List.Sorted.{IsStrictlySortedBy}
use Rattle.std.proofs.lemmas.Int.{ints}
use Rattle.std.proofs.lemmas.List.Elements.{All-head, All-tail}
use Rattle.rules_data.specs.values.Tickets.{Identity, Held}
use Rattle.rules_code.specs.steps.Changes.{Change, minted, burnt, identity_of, amount_of, amount_in, minted_in, burnt_in}
use Rattle.rules_code.specs.evaluation.Surroundings.{Contract}
use Rattle.rules_world.specs.world.World.{World, Account, identity_order}
use Rattle.rules_world.specs.world.Forms.{IsAccount}
use Rattle.rules_world.specs.world.Good.{known_with, IsGood, IsGoodContract}
use Rattle.rules_world.specs.world.Holdings.{amount_held, held, held_by_accounts, held_by_contracts, minted_ever, burnt_ever, identities}
use Rattle.rules_files.specs.snapshots.Course.{total_of, ticket_of, changes_of}
use Rattle.laws_world.proofs.accounts.ForCallers.{alike_equal, equal_of, identity_total, held_positive, in_positive, burnt_positive}
use Rattle.laws_world.proofs.lines_lemmas.ForCallers.{amount_is_told, told_in_order}
use Rattle.laws_commands.proofs.resuming_lemmas.logs.Inserted.{loaded_log}
use Rattle.laws_commands.proofs.reached_lemmas.Tickets.{sum_positive}

-- ---- amounts of what is alike

amount_alike : (i j : Identity) (t : Held) → identity_order i j ≡ Equal → amount_of j t ≡ amount_of i t
amount_alike i j t e =
    ap (λ (b : Bool). if b then t.amount else pos 0)
    (alike_equal j (identity_of t) ∙ ap is_eq (sym (identity_total.congr i j (identity_of t) e)) ∙ sym (alike_equal i (identity_of t)))

minted_alike : (i j : Identity) (cs : List Change) → identity_order i j ≡ Equal → minted_in j cs ≡ minted_in i cs
minted_alike i j [] e = refl
minted_alike i j (minted t ∷ cs) e = λ k. amount_alike i j t e k +ℤ minted_alike i j cs e k
minted_alike i j (burnt t ∷ cs) e = minted_alike i j cs e

burnt_alike : (i j : Identity) (cs : List Change) → identity_order i j ≡ Equal → burnt_in j cs ≡ burnt_in i cs
burnt_alike i j [] e = refl
burnt_alike i j (minted t ∷ cs) e = burnt_alike i j cs e
burnt_alike i j (burnt t ∷ cs) e = λ k. amount_alike i j t e k +ℤ burnt_alike i j cs e k

-- ---- sums over tickets in order

abbrev sum_of : Identity → (Identity → ℤ) → List Identity → ℤ
sum_of id f [] = pos 0
sum_of id f (j ∷ js) = (if is_at (identity_order id) j then f j else pos 0) +ℤ sum_of id f js

abbrev told_by : (Identity → ℤ) → List Identity → List (Identity × ℤ)
told_by f js = map (λ j. (j, f j)) js

abbrev found_in : Identity → (Identity → ℤ) → List Identity → Option ℤ
found_in id f js = lookup (is_at (identity_order id)) (told_by f js)

nothing_more : (a : ℤ) → pos 0 +ℤ a ≡ a
nothing_more a = omega (arith, ints)

nothing_behind : (a : ℤ) → a +ℤ pos 0 ≡ a
nothing_behind a = omega (arith, ints)

-- nothing is found above the ticket
none_above : (id j : Identity) (f : Identity → ℤ) (js : List Identity) → identity_order id j ≡ Equal →
    AllByRecursion (λ y. identity_order j y ≡ Less) js →
    sum_of id f js ≡ pos 0
none_above id j f [] e h = refl
none_above id j f (y ∷ js) e h =
    ap (λ (r : Ordering). (if is_eq r then f y else pos 0) +ℤ sum_of id f js) (identity_total.congr id j y e ∙ h.0)
    ∙ nothing_more (sum_of id f js) ∙ none_above id j f js e h.1

sum_found : (id : Identity) (f : Identity → ℤ) (js : List Identity) → IsStrictlySortedBy identity_order js →
    sum_of id f js ≡ unwrap_or (found_in id f js) (pos 0)
unfolding IsStrictlySortedBy
sum_found id f [] s = refl
sum_found id f (j ∷ js) s = by (is_at (identity_order id) j) refl (sum_found id f js s.1) where
  by : (b : Bool) → is_at (identity_order id) j ≡ b → sum_of id f js ≡ unwrap_or (found_in id f js) (pos 0) →
      (if b then f j else pos 0) +ℤ sum_of id f js ≡ unwrap_or (cond b (Some (f j)) (found_in id f js)) (pos 0)
  by true e h =
      ap (λ (n : ℤ). f j +ℤ n) (none_above id j f js (equal_of (identity_order id j) e) s.0) ∙ nothing_behind (f j)
  by false e h = nothing_more (sum_of id f js) ∙ h

-- a ticket that is alike is found, or none is
abbrev Finds : Identity → List Identity → Type 0
Finds id js =
    ((j : Identity) × (identity_order id j ≡ Equal) × ((f : Identity → ℤ) → found_in id f js ≡ Some (f j)))
    ⊎ ((f : Identity → ℤ) → found_in id f js ≡ None)

finds : (id : Identity) (js : List Identity) → Finds id js
finds id [] = inr (λ f. refl)
finds id (j ∷ js) = by (is_at (identity_order id) j) refl (finds id js) where
  by : (b : Bool) → is_at (identity_order id) j ≡ b → Finds id js → Finds id (j ∷ js)
  by true e h = inl (j, equal_of (identity_order id j) e, λ f. ap (λ (b : Bool). cond b (Some (f j)) (found_in id f js)) e)
  by false e (inl h) = inl (h.0, h.1, λ f. ap (λ (b : Bool). cond b (Some (f j)) (found_in id f js)) e ∙ h.2 f)
  by false e (inr h) = inr (λ f. ap (λ (b : Bool). cond b (Some (f j)) (found_in id f js)) e ∙ h f)

-- ---- what a log mints and burns that has each ticket once

one_amount : (id j : Identity) (n : ℤ) → amount_of id (ticket_of j n) ≡ (if is_at (identity_order id) j then n else pos 0)
one_amount id j n = ap (λ (b : Bool). if b then n else pos 0) (alike_equal id j)

minted_spread : (w : World) (id : Identity) (js : List Identity) →
    minted_in id (flat_map changes_of (map (total_of w) js)) ≡ sum_of id (minted_ever w) js
minted_spread w id [] = refl
minted_spread w id (j ∷ js) = λ k. one_amount id j (minted_ever w j) k +ℤ by (int_lt (pos 0) (burnt_ever w j))
    (minted_spread w id js) k where
      by : (b : Bool) → minted_in id (flat_map changes_of (map (total_of w) js)) ≡ sum_of id (minted_ever w) js →
          minted_in id ((if b then burnt (ticket_of j (burnt_ever w j)) ∷ [] else []) ++ flat_map changes_of (map (total_of w) js))
          ≡ sum_of id (minted_ever w) js
      by true h = h
      by false h = h

not_below : (n : ℤ) → pos 0 ≤ℤ n → int_lt (pos 0) n ≡ false → n ≡ pos 0
not_below n h e = omega (arith, ints)

burnt_spread : (w : World) (id : Identity) (js : List Identity) → ((j : Identity) → pos 0 ≤ℤ burnt_ever w j) →
    burnt_in id (flat_map changes_of (map (total_of w) js)) ≡ sum_of id (burnt_ever w) js
burnt_spread w id [] h = refl
burnt_spread w id (j ∷ js) h = by (int_lt (pos 0) (burnt_ever w j)) refl (burnt_spread w id js h) where
  nothing : (b : Bool) (n : ℤ) → n ≡ pos 0 → pos 0 ≡ (if b then n else pos 0)
  nothing true n e = sym e
  nothing false n e = refl

  by : (b : Bool) → int_lt (pos 0) (burnt_ever w j) ≡ b →
      burnt_in id (flat_map changes_of (map (total_of w) js)) ≡ sum_of id (burnt_ever w) js →
      burnt_in id ((if b then burnt (ticket_of j (burnt_ever w j)) ∷ [] else []) ++ flat_map changes_of (map (total_of w) js))
      ≡ (if is_at (identity_order id) j then burnt_ever w j else pos 0) +ℤ sum_of id (burnt_ever w) js
  by true e rest = λ k. one_amount id j (burnt_ever w j) k +ℤ rest k
  by false e rest =
      rest ∙ sym (nothing_more (sum_of id (burnt_ever w) js))
      ∙ ap (λ (n : ℤ). n +ℤ sum_of id (burnt_ever w) js)
      (nothing (is_at (identity_order id) j) (burnt_ever w j) (not_below (burnt_ever w j) (h j) e))

-- ---- what is held is not below nothing

accounts_positive : (id : Identity) (es : List (List ℕ × Account)) → All IsAccount es → pos 0 ≤ℤ held_by_accounts id es
accounts_positive id [] h = omega (arith, ints)
accounts_positive id (a ∷ es) h =
    let i = All-head IsAccount a es h in
    sum_positive (amount_held a.1 id) (held_by_accounts id es) (held_positive a.1 id (record { forms = i.1; order = i.2 }))
    (accounts_positive id es (All-tail IsAccount a es h))

contracts_positive : (w : World) (id : Identity) (cs : List (List ℕ × Contract)) → All (IsGoodContract w) cs →
    pos 0 ≤ℤ held_by_contracts id cs
contracts_positive w id [] h = omega (arith, ints)
contracts_positive w id (c ∷ cs) h =
    let g = All-head (IsGoodContract w) c cs h in
    sum_positive (amount_in id c.1.storage) (held_by_contracts id cs) (in_positive id (known_with w []) g.0.storage c.1.storage g.3)
    (contracts_positive w id cs (All-tail (IsGoodContract w) c cs h))

-- ---- the loaded log

none_burnt : (h m b : ℤ) → h +ℤ pos 0 ≡ m -ℤ b → pos 0 ≤ℤ h → pos 0 ≤ℤ b → m ≡ pos 0 → pos 0 ≡ b
none_burnt h m b e x y z = omega (arith, ints)

module _ (w : World) (g : IsGood w []) where
  keys : (f : Identity → ℤ) (js : List Identity) → keys_of (told_by f js) ≡ js
  keys f [] = refl
  keys f (j ∷ js) = ap (λ (ks : List Identity). j ∷ ks) (keys f js)

  sorted : IsStrictlySortedBy identity_order (identities w.log)
  sorted = subst (λ (js : List Identity). IsStrictlySortedBy identity_order js) (keys (minted_ever w) (identities w.log))
      (told_in_order w g.sound.form).order

  burnt_some : (id : Identity) → pos 0 ≤ℤ burnt_ever w id
  burnt_some id = burnt_positive id w.log g.sound.form.log

  held_some : (id : Identity) → pos 0 ≤ℤ held w id
  held_some id =
      sum_positive (held_by_accounts id w.accounts) (held_by_contracts id w.contracts)
      (accounts_positive id w.accounts g.sound.form.accounts)
      (contracts_positive w id w.contracts g.sound.contracts)

  pub loaded_minted : (id : Identity) → minted_in id w.log ≡ minted_in id (loaded_log w)
  loaded_minted id =
      sym (minted_spread w id (identities w.log) ∙ sum_found id (minted_ever w) (identities w.log) sorted
      ∙ amount_is_told w g.sound.form id)

  pub loaded_burnt : (id : Identity) → burnt_in id w.log ≡ burnt_in id (loaded_log w)
  loaded_burnt id =
      sym (burnt_spread w id (identities w.log) burnt_some ∙ sum_found id (burnt_ever w) (identities w.log) sorted
      ∙ by (finds id (identities w.log)))
    where
      by : Finds id (identities w.log) → unwrap_or (found_in id (burnt_ever w) (identities w.log)) (pos 0) ≡ burnt_ever w id
      by (inl h) = ap (λ (o : Option ℤ). unwrap_or o (pos 0)) (h.2 (burnt_ever w)) ∙ burnt_alike id h.0 w.log h.1
      by (inr h) =
          ap (λ (o : Option ℤ). unwrap_or o (pos 0)) (h (burnt_ever w))
          ∙ none_burnt (held w id) (minted_ever w id) (burnt_ever w id) (g.tickets id) (held_some id) (burnt_some id)
          (sym (amount_is_told w g.sound.form id) ∙ ap (λ (o : Option ℤ). unwrap_or o (pos 0)) (h (minted_ever w)))
