-- Sound states are loaded as they were saved.
use Rattle.std.proofs.Common.{◌≡◌, ℕ, ◌+◌, ◌≤◌, Bool, true, false, ◌&&◌, cond, List, [], ◌∷◌, ◌++◌, length, flat_map, Option, Some, None, Result, Ok, Err, refl, sym, ap, subst, ◌∙◌}
use Rattle.std.specs.List.{list_all, list_any}
use Rattle.std.proofs.lemmas.Grind.{flat_map-append}
use Rattle.rules_files.specs.snapshots.State.{State}
use Rattle.rules_files.specs.snapshots.Spelling.{eight, counted, head_spelling, costs_spelling, sums_spelling, account_spelling, contract_spelling, total_spelling, state_spelling}
use Rattle.rules_files.specs.snapshots.Reading.{snapshot_limit, read}
use Rattle.rules_files.specs.snapshots.Rules.{Part, parts, parts_of, counted_parts, is_account, is_contract, is_total, first_fault, is_sound}
use Rattle.rules_files.specs.snapshots.Loading.{LoadFault, judged, of_read, loaded, is_long, nodes_in}
use Rattle.laws_files.specs.snapshots.Laws.{SavedAreLoaded, PartsAreTheSpelling, LoadedAreSound}
use Rattle.laws_files.proofs.snapshots_lemmas.Parts.{states_are_spelt}
use Rattle.laws_files.proofs.snapshots_lemmas.GivesParts.{spelt_are_read}
use Rattle.laws_files.proofs.snapshots_lemmas.MadeParts.{read_have_spelling}

-- ---- the texts of the parts

abbrev Text : List Part → List ℕ
Text ps = flat_map (λ (p : Part). p.text) ps

listed_text : {A K : Type 0} (text : A → List ℕ) (rules : Option K → A → Bool) (key : A → K) (former : Option K) (xs : List A)
    → Text (parts_of text rules key former xs) ≡ flat_map text xs
listed_text text rules key former [] = refl
listed_text text rules key former (x ∷ xs) = ap (λ (r : List ℕ). text x ++ r) (listed_text text rules key (Some (key x)) xs)

counted_text : {A K : Type 0} (text : A → List ℕ) (rules : Option K → A → Bool) (key : A → K) (xs : List A)
    → Text (counted_parts text rules key xs) ≡ counted text xs
counted_text text rules key xs = ap (λ (r : List ℕ). eight (length xs) ++ r) (listed_text text rules key None xs)

pub parts_are_the_spelling : PartsAreTheSpelling
parts_are_the_spelling s =
    let A = counted_parts account_spelling (is_account s) (λ a. a.0) s.accounts in
    let C = counted_parts contract_spelling (is_contract s) (λ c. c.0) s.contracts in
    let T = counted_parts total_spelling (is_total s) (λ t. t.identity) s.tickets in
    let text : Text (A ++ (C ++ T)) ≡ counted account_spelling s.accounts ++ (counted contract_spelling s.contracts ++ counted total_spelling s.tickets) =
    flat_map-append (λ (p : Part). p.text) A (C ++ T)
    ∙ ap (λ (r : List ℕ). Text A ++ r) (flat_map-append (λ (p : Part). p.text) C T)
    ∙ ap (λ (r : List ℕ). r ++ (Text C ++ Text T)) (counted_text account_spelling (is_account s) (λ a. a.0) s.accounts)
    ∙ ap (λ (r : List ℕ). counted account_spelling s.accounts ++ (r ++ Text T)) (counted_text contract_spelling (is_contract s) (λ c. c.0) s.contracts)
    ∙ ap (λ (r : List ℕ). counted account_spelling s.accounts ++ (counted contract_spelling s.contracts ++ r)) (counted_text total_spelling (is_total s) (λ t. t.identity) s.tickets) in
    ap (λ (r : List ℕ). head_spelling s ++ (costs_spelling s ++ (sums_spelling s ++ r))) text

-- ---- faults

and_first : (a b : Bool) → a && b ≡ true → a ≡ true
and_first true b e = refl
and_first false b e = e

and_second : (a b : Bool) → a && b ≡ true → b ≡ true
and_second true b e = e
and_second false b e = absurd cc

both : (a b : Bool) → a ≡ true → b ≡ true → a && b ≡ true
both true b ha hb = hb
both false b ha hb = absurd cc

none_fails : (place : ℕ) (ps : List Part) → list_all (λ p. p.holds) ps ≡ true → first_fault place ps ≡ None
none_fails place [] h = refl
none_fails place (p ∷ ps) h =
    ap (λ b. cond b (first_fault (place + length p.text) ps) (Some place)) (and_first p.holds _ h) ∙ none_fails (place + length p.text) ps (and_second p.holds _ h)

all_hold_by : (place : ℕ) (b : Bool) (r : Option ℕ) → cond b r (Some place) ≡ None → (b ≡ true) × (r ≡ None)
all_hold_by place true r e = (refl, e)
all_hold_by place false r e = absurd cc

all_hold : (place : ℕ) (ps : List Part) → first_fault place ps ≡ None → list_all (λ p. p.holds) ps ≡ true
all_hold place [] e = refl
all_hold place (p ∷ ps) e =
    let h = all_hold_by place p.holds (first_fault (place + length p.text) ps) e in
    both p.holds (list_all (λ p. p.holds) ps) h.0 (all_hold (place + length p.text) ps h.1)

-- ---- saving and loading

abbrev some : List ℕ → Option (List ℕ)
some x = Some x

saved_by : (b : Bool) (text bs : List ℕ) → cond b None (some text) ≡ Some bs → text ≡ bs
saved_by true text bs e = absurd cc
saved_by false text bs e = cc

pub saved_are_loaded : SavedAreLoaded
saved_are_loaded s bs spelt sound saves short =
    let is : state_spelling s ≡ bs = saved_by (list_any is_long (nodes_in s)) (state_spelling s) bs saves in
    let whole : read (state_spelling s) ≡ Ok s = spelt_are_read s spelt (subst (λ (t : List ℕ). length t ≤ snapshot_limit) (sym is) short) in
    ap loaded (sym is) ∙ ap of_read whole ∙ ap (judged s) (none_fails 0 (parts s) sound)

abbrev good : State → Result State LoadFault
good s = Ok s

judged_is : (x s : State) (o : Option ℕ) → judged x o ≡ Ok s → (x ≡ s) × (o ≡ None)
judged_is x s None e = let same : good x ≡ good s = e in (ok_same x s same, refl)
  where
    ok_same : (x y : State) → good x ≡ good y → x ≡ y
    ok_same x y e = cc
judged_is x s (Some place) e = absurd cc

loaded_by : (r : Result State ℕ) (s : State) → of_read r ≡ Ok s → (r ≡ Ok s) × (is_sound s ≡ true)
loaded_by (Ok x) s e =
    let j = judged_is x s (first_fault 0 (parts x)) e in
    (ap (λ (y : State). Ok y) j.0, subst (λ (y : State). is_sound y ≡ true) j.0 (all_hold 0 (parts x) j.1))
loaded_by (Err place) s e = absurd cc

pub loaded_are_sound : LoadedAreSound
loaded_are_sound bs s bytes e = let r = loaded_by (read bs) s e in (states_are_spelt bs s bytes r.0, read_have_spelling bs s bytes r.0, r.1)
