-- The places of accounts, contracts and tickets.
use Rattle.std.proofs.Common.{◌≡◌, ℕ, ◌+◌, ◌*◌, ℤ, Bool, true, false, ltb, nat_eq, List, [], ◌∷◌, length, Result, Ok, Err, refl, sym, ap, subst, ◌∙◌, arith}
use Rattle.std.specs.Prelude.{IfOk}
use Rattle.std.specs.Int.{w32, w64}
use Rattle.std.specs.List.{flat_map}
use Rattle.std.proofs.lemmas.List.{length-append}
use Rattle.rules_text.specs.binary.Reading.{Spot}
use Rattle.rules_data.specs.gas.Kinds.{kinds_by_name}
use Rattle.rules_data.specs.gas.Prices.{Price}
use Rattle.rules_files.specs.snapshots.State.{State}
use Rattle.rules_files.specs.snapshots.Reading.{Reader, ◌>>=◌, taken, number_at, signed_at, mark_at, parts_at, counted_at, price_at, account_at, contract_at, total_at, state_at, snapshot_limit, whole, read}
use Rattle.rules_files.specs.snapshots.Spelling.{four, eight, mark, profile, signed, price_spelling, counted, account_spelling, contract_spelling, total_spelling}
use Rattle.laws_data.specs.binary.Laws.{IsBytes}
use Rattle.laws_files.proofs.snapshots_lemmas.Fields.{Reads, rest_fits, bind_ok, guard_ok, ok_is, taken_takes, number_takes, whole_32, whole_64, moment_takes, mark_takes}
use Rattle.laws_files.proofs.snapshots_lemmas.Parts.{opening, profile_at, profile_reads, parts_take, price_takes, counted_takes, account_takes, contract_takes, total_takes, guard_true}
use Rattle.mich_saved.specs.Sound.{Agree, EachAt, IsSame}
use Rattle.mich_saved.specs.Parts.{placed, kept_contract_at, Head, moment_at, head_at, KeptState, kept_state_at, kept_whole, kept_read}
use Rattle.mich_saved.specs.KeptStates.{IsKeptContract, ArePlaced}
use Rattle.mich_saved.specs.Results.{Gives}
use Rattle.mich_saved.specs.Whole.{state}
use Rattle.mich_saved.specs.declared.errors.LoadError.{LoadError}
use Rattle.mich_saved.specs.declared.reading.ReadState.{ReadState}
use Rattle.mich_saved.proofs.Passes.{behind_head, contract_agrees, state_is}
use Rattle.mich_saved.proofs.Placed.{are_placed}

-- ---- where reading stands

abbrev At : ℕ → Spot → Type 0
At place s = (s.place ≡ place) × IsBytes s.left

moved : {A : Type 0} (f : Reader A) (spell : A → List ℕ) → Reads f spell → (n : ℕ) → ((x : A) → length (spell x) ≡ n)
    → (place : ℕ) (s : Spot) (x : A × Spot) → At place s → f s ≡ Ok x → At (place + n) x.1
moved f spell reads n len place s x at e =
    let t = reads s x.1 x.0 at.1 e in
    (t.1 ∙ (ap (λ (p : ℕ). p + length (spell x.0)) at.0 ∙ ap (λ (m : ℕ). place + m) (len x.0)), rest_fits s x.1 (spell x.0) t at.1)

bytes_moved : (n place : ℕ) (s : Spot) (x : List ℕ × Spot) → At place s → taken n s ≡ Ok x → At (place + n) x.1
bytes_moved n place s x at e =
    let t = taken_takes n s x.1 x.0 e in
    (t.0.1 ∙ (ap (λ (p : ℕ). p + length x.0) at.0 ∙ ap (λ (m : ℕ). place + m) t.1), rest_fits s x.1 x.0 t.0 at.1)

four_moved : (place : ℕ) (s : Spot) (x : ℕ × Spot) → At place s → number_at w32 s ≡ Ok x → At (place + 4) x.1
four_moved = moved (number_at w32) four (number_takes w32 whole_32) 4 (λ n. refl)

eight_moved : (place : ℕ) (s : Spot) (x : ℕ × Spot) → At place s → number_at w64 s ≡ Ok x → At (place + 8) x.1
eight_moved = moved (number_at w64) eight (number_takes w64 whole_64) 8 (λ n. refl)

one_byte : (b : Bool) → length (mark b) ≡ 1
one_byte true = refl
one_byte false = refl

mark_moved : (place : ℕ) (s : Spot) (x : Bool × Spot) → At place s → mark_at s ≡ Ok x → At (place + 1) x.1
mark_moved = moved mark_at mark mark_takes 1 one_byte

profile_byte : (b : Bool) → length (profile b) ≡ 1
profile_byte true = refl
profile_byte false = refl

prices_take : (ps : List Price) → length (flat_map price_spelling ps) ≡ 8 * length ps
prices_take [] = refl
prices_take (p ∷ ps) = omega (arith, prices_take ps, length-append (price_spelling p) (flat_map price_spelling ps))

prices_moved : (place : ℕ) (s : Spot) (x : List Price × Spot) → At place s → parts_at price_at (length kinds_by_name) s ≡ Ok x → At (place + 784) x.1
unfolding kinds_by_name
prices_moved place s x at e =
    let t = parts_take price_at price_spelling price_takes (length kinds_by_name) s x.1 x.0 at.1 e in
    (omega (arith, t.0.1, t.1, at.0, prices_take x.0), rest_fits s x.1 (flat_map price_spelling x.0) t.0 at.1)

-- ---- the head

moment_moved : (s : Spot) (x : (List ℕ × ℕ × ℤ) × Spot) → At 0 s → moment_at s ≡ Ok x → At 24 x.1
unfolding moment_at
moment_moved s x at e =
    let first = bind_ok (taken 8 s) _ x e in
    let f = bytes_moved 8 0 s first.0 at first.1 in
    opening s.place first.0 _ x first.2 (λ is e1.
    let chain = bind_ok (taken 4 first.0.1) _ x e1 in
    let c = bytes_moved 4 8 first.0.1 chain.0 f chain.1 in
    let level = bind_ok (number_at w32 chain.0.1) _ x chain.2 in
    let l = four_moved 12 chain.0.1 level.0 c level.1 in
    let now = bind_ok (signed_at w64 level.0.1) _ x level.2 in
    let n : At 24 now.0.1 = moved (signed_at w64) (signed w64) moment_takes 8 (λ z. refl) 16 level.0.1 now.0 l now.1 in
    let made : (List ℕ × ℕ × ℤ) × Spot = ((chain.0.0, level.0.0, now.0.0), now.0.1) in
    subst (λ (p : (List ℕ × ℕ × ℤ) × Spot). At 24 p.1) (ok_is made x now.2) n)

head_moved : (s : Spot) (x : Head × Spot) → At 0 s → head_at s ≡ Ok x → At 43 x.1
unfolding head_at
head_moved s x at e =
    let moment = bind_ok (moment_at s) _ x e in
    let m = moment_moved s moment.0 at moment.1 in
    let pays = bind_ok (profile_at moment.0.1) _ x moment.2 in
    let p = moved profile_at profile profile_reads 1 profile_byte 24 moment.0.1 pays.0 m pays.1 in
    let rate = bind_ok (number_at w64 pays.0.1) _ x pays.2 in
    let r = eight_moved 25 pays.0.1 rate.0 p rate.1 in
    let groups = bind_ok (number_at w64 rate.0.1) _ x rate.2 in
    let g = eight_moved 33 rate.0.1 groups.0 r groups.1 in
    let costs = bind_ok (mark_at groups.0.1) _ x groups.2 in
    let c = mark_moved 41 groups.0.1 costs.0 g costs.1 in
    let started = bind_ok (mark_at costs.0.1) _ x costs.2 in
    let t : At 43 started.0.1 = mark_moved 42 costs.0.1 started.0 c started.1 in
    let made : Head × Spot = (record { chain = moment.0.0.0; level = moment.0.0.1; moment = moment.0.0.2; pays = pays.0.0; rate = rate.0.0; groups = groups.0.0; costs_stood = costs.0.0; started = started.0.0 }, started.0.1) in
    subst (λ (q : Head × Spot). At 43 q.1) (ok_is made x started.2) t

-- ---- parts behind their count

same_with : {A C D : Type 0} (S : C → D → Type 0) (x : Result (A × Spot) ℕ) (f : A × Spot → Result (C × Spot) ℕ) (g : A × Spot → Result (D × Spot) ℕ)
    → ((a : A × Spot) → x ≡ Ok a → Agree S (f a) (g a)) → Agree S (x >>= f) (x >>= g)
same_with S (Ok x) f g next = next x refl
same_with S (Err p) f g next = refl

then_with : {A B C D : Type 0} (R : A → B → Type 0) (S : C → D → Type 0) (x : Result (A × Spot) ℕ) (y : Result (B × Spot) ℕ) (f : A × Spot → Result (C × Spot) ℕ) (g : B × Spot → Result (D × Spot) ℕ)
    → Agree R x y → ((a : A) (b : B) (s : Spot) → x ≡ Ok (a, s) → R a b → Agree S (f (a, s)) (g (b, s))) → Agree S (x >>= f) (y >>= g)
then_with R S (Ok x) (Ok y) f g h next = subst (λ (s : Spot). Agree S (f (x.0, x.1)) (g (y.0, s))) h.0 (next x.0 y.0 x.1 refl h.1)
then_with R S (Err p) (Err q) f g h next = h
then_with R S (Ok x) (Err q) f g h next = absurd h
then_with R S (Err p) (Ok y) f g h next = absurd h

module _ {A B : Type 0} (R : A → B → Type 0) (spell : A → List ℕ) (part : Reader A) (kept : Reader B) (agrees : (s : Spot) → Agree R (part s) (kept s)) (reads : Reads part spell) where
  moves : (s after : Spot) (x : A) → IsBytes s.left → part s ≡ Ok (x, after) → (after.place ≡ s.place + length (spell x)) × IsBytes after.left
  moves s after x fits e = let t = reads s after x fits e in (t.1, rest_fits s after (spell x) t fits)

  counted_placed : (place : ℕ) (s : Spot) → At place s → Agree (EachAt R spell (place + 8)) (counted_at part s) (counted_at (placed kept) s)
  counted_placed place s at =
      same_with (EachAt R spell (place + 8)) (number_at w64 s) (λ (n : ℕ × Spot). parts_at part n.0 n.1) (λ (n : ℕ × Spot). parts_at (placed kept) n.0 n.1) (λ n e.
      let here = eight_moved place s n at e in
      subst (λ (p : ℕ). Agree (EachAt R spell p) (parts_at part n.0 n.1) (parts_at (placed kept) n.0 n.1)) here.0
      (are_placed R spell (λ (t : Spot). IsBytes t.left) part kept agrees moves n.0 n.1 here.1))

  counted_moved : (place : ℕ) (s after : Spot) (xs : List A) → At place s → counted_at part s ≡ Ok (xs, after) → At (place + 8 + length (flat_map spell xs)) after
  counted_moved place s after xs at e =
      let t = counted_takes part spell reads s after xs at.1 e in
      (omega (arith, t.1, at.0, length-append (eight (length xs)) (flat_map spell xs)), rest_fits s after (counted spell xs) t at.1)

same_agrees : {A : Type 0} (x : Result (A × Spot) ℕ) → Agree IsSame x x
same_agrees (Ok x) = (refl, refl)
same_agrees (Err p) = refl

-- ---- states

at_place : (P : ℕ → Type 0) (p q : ℕ) → p ≡ q → P p → P q
at_place P p q e h = subst P e h

state_placed : (s : Spot) → At 0 s → Agree ArePlaced (state_at s) (kept_state_at s)
unfolding kept_state_at
state_placed s at = subst (λ (r : Result (State × Spot) ℕ). Agree ArePlaced r (kept_state_at s)) (sym (state_is s)) (
    same_with ArePlaced (head_at s) behind_head _ (λ h eh.
    same_with ArePlaced (parts_at price_at (length kinds_by_name) h.1) _ _ (λ prices ep.
    same_with ArePlaced (number_at w64 prices.1) _ _ (λ fees ef.
    same_with ArePlaced (number_at w64 fees.1) _ _ (λ burn eb.
    let head = head_moved s h at eh in
    let costs = prices_moved 43 h.1 prices head ep in
    let one = eight_moved 827 prices.1 fees costs ef in
    let sums : At 843 burn.1 = eight_moved 835 fees.1 burn one eb in
    then_with (EachAt IsSame account_spelling 851) ArePlaced (counted_at account_at burn.1) (counted_at (placed account_at) burn.1) _ _
    (counted_placed IsSame account_spelling account_at account_at (λ t. same_agrees (account_at t)) account_takes 843 burn.1 sums) (λ a ka r1 e1 ha.
    let n : ℕ = length (flat_map account_spelling a) in
    let first : At (851 + n) r1 = counted_moved IsSame account_spelling account_at account_at (λ t. same_agrees (account_at t)) account_takes 843 burn.1 r1 a sums e1 in
    then_with (EachAt IsKeptContract contract_spelling (859 + n)) ArePlaced (counted_at contract_at r1) (counted_at (placed kept_contract_at) r1) _ _
    (at_place (λ (p : ℕ). Agree (EachAt IsKeptContract contract_spelling p) (counted_at contract_at r1) (counted_at (placed kept_contract_at) r1)) (851 + n + 8) (859 + n) (omega arith)
    (counted_placed IsKeptContract contract_spelling contract_at kept_contract_at contract_agrees contract_takes (851 + n) r1 first)) (λ c kc r2 e2 hc.
    let m : ℕ = length (flat_map contract_spelling c) in
    let second : At (851 + n + 8 + m) r2 = counted_moved IsKeptContract contract_spelling contract_at kept_contract_at contract_agrees contract_takes (851 + n) r1 r2 c first e2 in
    then_with (EachAt IsSame total_spelling (867 + n + m)) ArePlaced (counted_at total_at r2) (counted_at (placed total_at) r2) _ _
    (at_place (λ (p : ℕ). Agree (EachAt IsSame total_spelling p) (counted_at total_at r2) (counted_at (placed total_at) r2)) (851 + n + 8 + m + 8) (867 + n + m) (omega arith)
    (counted_placed IsSame total_spelling total_at total_at (λ t. same_agrees (total_at t)) total_takes (851 + n + 8 + m) r2 second)) (λ t kt r3 e3 ht.
    (refl, record { accounts = ha; contracts = hc; tickets = ht })))))))))

-- the parts of a state that is read have their places
read_placed : (bs : List ℕ) (s : State) (k : KeptState) → IsBytes bs → read bs ≡ Ok s → kept_read bs ≡ Ok k → ArePlaced s k
unfolding read kept_read
read_placed bs s k fits e f =
    let start : Spot = record { place = 0; left = bs } in
    let g = guard_ok (ltb snapshot_limit (length bs)) snapshot_limit (state_at start >>= λ r. whole r) s e in
    let r = bind_ok (state_at start) (λ r. whole r) s g.1 in
    let w = guard_true (nat_eq (length r.0.1.left) 0) (Ok r.0.0) r.0.1.place s r.2 in
    let h = guard_ok (ltb snapshot_limit (length bs)) snapshot_limit (kept_state_at start >>= λ r. kept_whole r) k f in
    let q = bind_ok (kept_state_at start) (λ r. kept_whole r) k h.1 in
    let v = guard_true (nat_eq (length q.0.1.left) 0) (Ok q.0.0) q.0.1.place k q.2 in
    let both : Agree ArePlaced (Ok r.0) (Ok q.0) =
    subst (λ (x : Result (KeptState × Spot) ℕ). Agree ArePlaced (Ok r.0) x) q.1
    (subst (λ (x : Result (State × Spot) ℕ). Agree ArePlaced x (kept_state_at start)) r.1 (state_placed start (refl, fits))) in
    subst (λ (x : State). ArePlaced x k) (ok_is r.0.0 s w.1) (subst (λ (x : KeptState). ArePlaced r.0.0 x) (ok_is q.0.0 k v.1) both.1)

pub placed_as : (bs : List ℕ) (s : State) (r : Result ReadState LoadError) → IsBytes bs → read bs ≡ Ok s → Gives state r (kept_read bs) → IfOk r (λ x. ArePlaced s (state x))
placed_as bs s (Ok x) fits e g = read_placed bs s (state x) fits e g
placed_as bs s (Err f) fits e g = tt
