-- The parts of a state are read as they are spelt, and so is the state.
use Rattle.std.proofs.Common.{◌≡◌, ℕ, zero, suc, ◌+◌, Bool, true, false, cond, ltb, nat_eq, ℤ, List, [], ◌∷◌, ◌++◌, length, Option, Some, None, Result, Ok, Err, refl, sym, ap, subst, ◌∙◌, append-nil, flat_map, bytes_eq}
use Rattle.std.specs.Int.{w32, w64, w128}
use Rattle.std.proofs.lemmas.Bool.{eqb-true}
use Rattle.std.proofs.lemmas.List.{nil_from_length}
use Rattle.std.proofs.lemmas.Slice.Eq.{bytes_eq-Decides}
use Rattle.rules_text.specs.binary.Reading.{Spot}
use Rattle.rules_code.specs.evaluation.Surroundings.{Contract}
use Rattle.rules_data.specs.forms.Spelling.{contract_place, is_key_hash}
use Rattle.rules_data.specs.gas.Kinds.{kinds_by_name}
use Rattle.rules_data.specs.gas.Prices.{Price}
use Rattle.rules_data.specs.types.Kind.{Kind}
use Rattle.rules_data.specs.values.Tickets.{Identity}
use Rattle.rules_world.specs.world.World.{Account}
use Rattle.laws_data.specs.binary.Laws.{IsBytes}
use Rattle.rules_files.specs.snapshots.State.{State, Total}
use Rattle.rules_files.specs.snapshots.Spelling.{four, eight, signed, mark, magic, profile, node_spelling, value_spelling, kind_spelling, identity_spelling, price_spelling, counted, holding_spelling, account_spelling, contract_spelling, total_spelling, head_spelling, state_spelling}
use Rattle.rules_files.specs.snapshots.Reading.{Reader, ◌>>=◌, taken, number_at, signed_at, mark_at, node_at, kind_at, value_at, identity_at, storage_kind, parts_at, counted_at, magic_of, profile_of, price_at, holding_at, key_hash_of, account_at, storage_by, contract_at, total_at, state_at, snapshot_limit, whole, read}
use Rattle.laws_files.specs.snapshots.Laws.{Takes, StatesAreSpelt, OneSpelling}
use Rattle.laws_files.proofs.snapshots_lemmas.Fields.{ok_is, bind_ok, guard_ok, takes_then, takes_nothing, rest_fits, Reads, taken_takes, whole_32, whole_64, number_takes, moment_takes, amount_takes, mark_takes, node_takes}
use Rattle.laws_files.proofs.snapshots_lemmas.Values.{hash_is, value_takes}
use Rattle.laws_files.proofs.snapshots_lemmas.ContentTypes.{kind_takes}

-- ---- small parts

pub identity_takes : Reads identity_at identity_spelling
unfolding identity_at
identity_takes s after x fits e =
    let i = bind_ok (taken 20 s) (λ i. kind_at i.1 >>= λ a. value_at a.0 a.1 >>= λ c. Ok (record { issuer = contract_place i.0; kind = a.0; content = c.0 }, c.1)) (x, after) e in
    let a = bind_ok (kind_at i.0.1) (λ a. value_at a.0 a.1 >>= λ c. Ok (record { issuer = contract_place i.0.0; kind = a.0; content = c.0 }, c.1)) (x, after) i.2 in
    let c = bind_ok (value_at a.0.0 a.0.1) (λ c. Ok (record { issuer = contract_place i.0.0; kind = a.0.0; content = c.0 }, c.1)) (x, after) a.2 in
    let issuer = taken_takes 20 s i.0.1 i.0.0 i.1 in
    let issuer_fits = rest_fits s i.0.1 i.0.0 issuer.0 fits in
    let kind = kind_takes i.0.1 a.0.1 a.0.0 issuer_fits a.1 in
    let content = value_takes a.0.0 a.0.1 c.0.1 c.0.0 (rest_fits i.0.1 a.0.1 (kind_spelling a.0.0) kind issuer_fits) c.1 in
    let inner = takes_then i.0.1 a.0.1 c.0.1 (kind_spelling a.0.0) (value_spelling c.0.0) kind content in
    let all = takes_then s i.0.1 c.0.1 i.0.0 (kind_spelling a.0.0 ++ value_spelling c.0.0) issuer.0 inner in
    let made : Identity × Spot = (record { issuer = contract_place i.0.0; kind = a.0.0; content = c.0.0 }, c.0.1) in
    subst (λ (p : Identity × Spot). Takes s (identity_spelling p.0) p.1) (ok_is made (x, after) c.2)
    (subst (λ (b : List ℕ). Takes s (b ++ (kind_spelling a.0.0 ++ value_spelling c.0.0)) c.0.1) (sym (hash_is i.0.0 issuer.1)) all)

pub price_takes : Reads price_at price_spelling
unfolding price_at
price_takes s after x fits e =
    let a = bind_ok (number_at w32 s) (λ a. number_at w32 a.1 >>= λ b. Ok (record { base = a.0; coefficient = b.0 }, b.1)) (x, after) e in
    let b = bind_ok (number_at w32 a.0.1) (λ b. Ok (record { base = a.0.0; coefficient = b.0 }, b.1)) (x, after) a.2 in
    let base = number_takes w32 whole_32 s a.0.1 a.0.0 fits a.1 in
    let coefficient = number_takes w32 whole_32 a.0.1 b.0.1 b.0.0 (rest_fits s a.0.1 (four a.0.0) base fits) b.1 in
    let made : Price × Spot = (record { base = a.0.0; coefficient = b.0.0 }, b.0.1) in
    subst (λ (p : Price × Spot). Takes s (price_spelling p.0) p.1) (ok_is made (x, after) b.2)
    (takes_then s a.0.1 b.0.1 (four a.0.0) (four b.0.0) base coefficient)

pub holding_takes : Reads holding_at holding_spelling
unfolding holding_at
holding_takes s after x fits e =
    let a = bind_ok (identity_at s) (λ a. signed_at w128 a.1 >>= λ b. Ok ((a.0, b.0), b.1)) (x, after) e in
    let b = bind_ok (signed_at w128 a.0.1) (λ b. Ok ((a.0.0, b.0), b.1)) (x, after) a.2 in
    let id = identity_takes s a.0.1 a.0.0 fits a.1 in
    let amount = amount_takes a.0.1 b.0.1 b.0.0 (rest_fits s a.0.1 (identity_spelling a.0.0) id fits) b.1 in
    let made : (Identity × ℤ) × Spot = ((a.0.0, b.0.0), b.0.1) in
    subst (λ (p : (Identity × ℤ) × Spot). Takes s (holding_spelling p.0) p.1) (ok_is made (x, after) b.2)
    (takes_then s a.0.1 b.0.1 (identity_spelling a.0.0) (signed w128 b.0.0) id amount)

pub total_takes : Reads total_at total_spelling
unfolding total_at
total_takes s after x fits e =
    let a = bind_ok (identity_at s) (λ a. signed_at w128 a.1 >>= λ b. signed_at w128 b.1 >>= λ c. Ok (record { identity = a.0; minted = b.0; burnt = c.0 }, c.1)) (x, after) e in
    let b = bind_ok (signed_at w128 a.0.1) (λ b. signed_at w128 b.1 >>= λ c. Ok (record { identity = a.0.0; minted = b.0; burnt = c.0 }, c.1)) (x, after) a.2 in
    let c = bind_ok (signed_at w128 b.0.1) (λ c. Ok (record { identity = a.0.0; minted = b.0.0; burnt = c.0 }, c.1)) (x, after) b.2 in
    let id = identity_takes s a.0.1 a.0.0 fits a.1 in
    let id_fits = rest_fits s a.0.1 (identity_spelling a.0.0) id fits in
    let minted = amount_takes a.0.1 b.0.1 b.0.0 id_fits b.1 in
    let burnt = amount_takes b.0.1 c.0.1 c.0.0 (rest_fits a.0.1 b.0.1 (signed w128 b.0.0) minted id_fits) c.1 in
    let made : Total × Spot = (record { identity = a.0.0; minted = b.0.0; burnt = c.0.0 }, c.0.1) in
    subst (λ (p : Total × Spot). Takes s (total_spelling p.0) p.1) (ok_is made (x, after) c.2)
    (takes_then s a.0.1 c.0.1 (identity_spelling a.0.0) (signed w128 b.0.0 ++ signed w128 c.0.0) id
    (takes_then a.0.1 b.0.1 c.0.1 (signed w128 b.0.0) (signed w128 c.0.0) minted burnt))

-- ---- lists of parts

pub parts_take : {A : Type 0} (f : Reader A) (spell : A → List ℕ) → Reads f spell → (n : ℕ) (s after : Spot) (xs : List A) → IsBytes s.left
    → parts_at f n s ≡ Ok (xs, after) → Takes s (flat_map spell xs) after × (length xs ≡ n)
parts_take {A} f spell reads zero s after xs fits e =
    let made : List A × Spot = ([], s) in
    subst (λ (p : List A × Spot). Takes s (flat_map spell p.0) p.1 × (length p.0 ≡ 0)) (ok_is made (xs, after) e) (takes_nothing s, refl)
parts_take {A} f spell reads (suc n) s after xs fits e =
    let a = bind_ok (f s) (λ x. parts_at f n x.1 >>= λ xs. Ok (x.0 ∷ xs.0, xs.1)) (xs, after) e in
    let b = bind_ok (parts_at f n a.0.1) (λ xs. Ok (a.0.0 ∷ xs.0, xs.1)) (xs, after) a.2 in
    let first = reads s a.0.1 a.0.0 fits a.1 in
    let others = parts_take f spell reads n a.0.1 b.0.1 b.0.0 (rest_fits s a.0.1 (spell a.0.0) first fits) b.1 in
    let made : List A × Spot = (a.0.0 ∷ b.0.0, b.0.1) in
    subst (λ (p : List A × Spot). Takes s (flat_map spell p.0) p.1 × (length p.0 ≡ suc n)) (ok_is made (xs, after) b.2)
    (takes_then s a.0.1 b.0.1 (spell a.0.0) (flat_map spell b.0.0) first others.0, ap suc others.1)

pub counted_takes : {A : Type 0} (f : Reader A) (spell : A → List ℕ) → Reads f spell → Reads (counted_at f) (counted spell)
counted_takes {A} f spell reads s after xs fits e =
    let n = bind_ok (number_at w64 s) (λ n. parts_at f n.0 n.1) (xs, after) e in
    let t = number_takes w64 whole_64 s n.0.1 n.0.0 fits n.1 in
    let p = parts_take f spell reads n.0.0 n.0.1 after xs (rest_fits s n.0.1 (eight n.0.0) t fits) n.2 in
    subst (λ (m : ℕ). Takes s (eight m ++ flat_map spell xs) after) (sym p.1)
    (takes_then s n.0.1 after (eight n.0.0) (flat_map spell xs) t p.0)

-- ---- accounts and contracts

pub guard_true : {A : Type 0} (b : Bool) (x : Result A ℕ) (d : ℕ) (y : A) → cond b x (Err d) ≡ Ok y → (b ≡ true) × (x ≡ Ok y)
guard_true true x d y e = (refl, e)
guard_true false x d y e = absurd cc

pub account_takes : Reads account_at account_spelling
unfolding account_at
account_takes s after x fits e =
    let b = bind_ok (taken 21 s) (λ b. key_hash_of s.place b >>= λ who. number_at w64 who.1 >>= λ n. counted_at holding_at n.1 >>= λ hs. Ok ((who.0, record { balance = n.0; holdings = hs.0 }), hs.1)) (x, after) e in
    let who = bind_ok (key_hash_of s.place b.0) (λ who. number_at w64 who.1 >>= λ n. counted_at holding_at n.1 >>= λ hs. Ok ((who.0, record { balance = n.0; holdings = hs.0 }), hs.1)) (x, after) b.2 in
    let n = bind_ok (number_at w64 who.0.1) (λ n. counted_at holding_at n.1 >>= λ hs. Ok ((who.0.0, record { balance = n.0; holdings = hs.0 }), hs.1)) (x, after) who.2 in
    let hs = bind_ok (counted_at holding_at n.0.1) (λ hs. Ok ((who.0.0, record { balance = n.0.0; holdings = hs.0 }), hs.1)) (x, after) n.2 in
    let same : b.0 ≡ who.0 = ok_is b.0 who.0 (guard_true (is_key_hash b.0.0) (Ok b.0) s.place who.0 who.1).1 in
    let bytes : Takes s who.0.0 who.0.1 = subst (λ (p : List ℕ × Spot). Takes s p.0 p.1) same (taken_takes 21 s b.0.1 b.0.0 b.1).0 in
    let bytes_fit = rest_fits s who.0.1 who.0.0 bytes fits in
    let balance = number_takes w64 whole_64 who.0.1 n.0.1 n.0.0 bytes_fit n.1 in
    let balance_fit = rest_fits who.0.1 n.0.1 (eight n.0.0) balance bytes_fit in
    let holdings = counted_takes holding_at holding_spelling holding_takes n.0.1 hs.0.1 hs.0.0 balance_fit hs.1 in
    let made : (List ℕ × Account) × Spot = ((who.0.0, record { balance = n.0.0; holdings = hs.0.0 }), hs.0.1) in
    subst (λ (p : (List ℕ × Account) × Spot). Takes s (account_spelling p.0) p.1) (ok_is made (x, after) hs.2)
    (takes_then s who.0.1 hs.0.1 who.0.0 (eight n.0.0 ++ counted holding_spelling hs.0.0) bytes
    (takes_then who.0.1 n.0.1 hs.0.1 (eight n.0.0) (counted holding_spelling hs.0.0) balance holdings))

pub storage_takes : (o : Option Kind) (place : ℕ) → Reads (storage_by o place) value_spelling
storage_takes None place s after x fits e = absurd cc
storage_takes (Some a) place s after x fits e = value_takes a s after x fits e

pub contract_takes : Reads contract_at contract_spelling
unfolding contract_at
contract_takes s after x fits e =
    let h = bind_ok (taken 20 s) (λ h. number_at w64 h.1 >>= λ b. number_at w64 b.1 >>= λ p. node_at p.1 >>= λ t. storage_by (storage_kind t.0) p.1.place t.1 >>= λ y. Ok ((h.0, record { balance = b.0; paid = p.0; script = t.0; storage = y.0 }), y.1)) (x, after) e in
    let b = bind_ok (number_at w64 h.0.1) (λ b. number_at w64 b.1 >>= λ p. node_at p.1 >>= λ t. storage_by (storage_kind t.0) p.1.place t.1 >>= λ y. Ok ((h.0.0, record { balance = b.0; paid = p.0; script = t.0; storage = y.0 }), y.1)) (x, after) h.2 in
    let p = bind_ok (number_at w64 b.0.1) (λ p. node_at p.1 >>= λ t. storage_by (storage_kind t.0) p.1.place t.1 >>= λ y. Ok ((h.0.0, record { balance = b.0.0; paid = p.0; script = t.0; storage = y.0 }), y.1)) (x, after) b.2 in
    let t = bind_ok (node_at p.0.1) (λ t. storage_by (storage_kind t.0) p.0.1.place t.1 >>= λ y. Ok ((h.0.0, record { balance = b.0.0; paid = p.0.0; script = t.0; storage = y.0 }), y.1)) (x, after) p.2 in
    let y = bind_ok (storage_by (storage_kind t.0.0) p.0.1.place t.0.1) (λ y. Ok ((h.0.0, record { balance = b.0.0; paid = p.0.0; script = t.0.0; storage = y.0 }), y.1)) (x, after) t.2 in
    let hash = (taken_takes 20 s h.0.1 h.0.0 h.1).0 in
    let hash_fit = rest_fits s h.0.1 h.0.0 hash fits in
    let balance = number_takes w64 whole_64 h.0.1 b.0.1 b.0.0 hash_fit b.1 in
    let balance_fit = rest_fits h.0.1 b.0.1 (eight b.0.0) balance hash_fit in
    let paid = number_takes w64 whole_64 b.0.1 p.0.1 p.0.0 balance_fit p.1 in
    let paid_fit = rest_fits b.0.1 p.0.1 (eight p.0.0) paid balance_fit in
    let script = node_takes p.0.1 t.0.1 t.0.0 paid_fit t.1 in
    let storage = storage_takes (storage_kind t.0.0) p.0.1.place t.0.1 y.0.1 y.0.0 (rest_fits p.0.1 t.0.1 (node_spelling t.0.0) script paid_fit) y.1 in
    let made : (List ℕ × Contract) × Spot = ((h.0.0, record { balance = b.0.0; paid = p.0.0; script = t.0.0; storage = y.0.0 }), y.0.1) in
    subst (λ (q : (List ℕ × Contract) × Spot). Takes s (contract_spelling q.0) q.1) (ok_is made (x, after) y.2)
    (takes_then s h.0.1 y.0.1 h.0.0 (eight b.0.0 ++ (eight p.0.0 ++ (node_spelling t.0.0 ++ value_spelling y.0.0))) hash
    (takes_then h.0.1 b.0.1 y.0.1 (eight b.0.0) (eight p.0.0 ++ (node_spelling t.0.0 ++ value_spelling y.0.0)) balance
    (takes_then b.0.1 p.0.1 y.0.1 (eight p.0.0) (node_spelling t.0.0 ++ value_spelling y.0.0) paid
    (takes_then p.0.1 t.0.1 y.0.1 (node_spelling t.0.0) (value_spelling y.0.0) script storage))))

-- ---- the head, the sums and the whole

bytes_are : (b : List ℕ) → bytes_eq b magic ≡ true → b ≡ magic
bytes_are b e = (bytes_eq-Decides b magic).0 e

magic_takes : (place : ℕ) (b : List ℕ × Spot) (after : Spot) → magic_of place b ≡ Ok after → (b.0 ≡ magic) × (b.1 ≡ after)
magic_takes place b after e =
    let g = guard_true (bytes_eq b.0 magic) (Ok b.1) place after e in
    (bytes_are b.0 g.0, ok_is b.1 after g.1)

profile_of_takes : (place : ℕ) (bs : List ℕ) (b : Bool) (after : Spot) → profile_of place bs ≡ Ok (b, after)
    → (bs ≡ profile b ++ after.left) × (after.place ≡ place + length (profile b))
profile_of_takes place [] b after e = absurd cc
profile_of_takes place (zero ∷ bs) b after e = absurd cc
profile_of_takes place (suc zero ∷ bs) b after e =
    let made : Bool × Spot = (false, record { place = place + 1; left = bs }) in
    subst (λ (p : Bool × Spot). ((1 ∷ bs) ≡ profile p.0 ++ p.1.left) × (p.1.place ≡ place + length (profile p.0))) (ok_is made (b, after) e) (refl, refl)
profile_of_takes place (suc (suc zero) ∷ bs) b after e =
    let made : Bool × Spot = (true, record { place = place + 1; left = bs }) in
    subst (λ (p : Bool × Spot). ((2 ∷ bs) ≡ profile p.0 ++ p.1.left) × (p.1.place ≡ place + length (profile p.0))) (ok_is made (b, after) e) (refl, refl)
profile_of_takes place (suc (suc (suc n)) ∷ bs) b after e = absurd cc

-- ---- one field, and what is read behind it

step : {A B G : Type 0} (f : Reader A) (p : A → List ℕ) → Reads f p → (s : Spot) (k : A × Spot → Result B ℕ) (y : B) → IsBytes s.left → (f s >>= k) ≡ Ok y
    → ((a : A) (r : Spot) → Takes s (p a) r → IsBytes r.left → k (a, r) ≡ Ok y → G) → G
step f p reads s k y fits e next =
    let x = bind_ok (f s) k y e in
    let t = reads s x.0.1 x.0.0 fits x.1 in
    next x.0.0 x.0.1 t (rest_fits s x.0.1 (p x.0.0) t fits) x.2

pub opening : {B G : Type 0} (place : ℕ) (b : List ℕ × Spot) (k : Spot → Result B ℕ) (y : B) → (magic_of place b >>= k) ≡ Ok y → (b.0 ≡ magic → k b.1 ≡ Ok y → G) → G
opening place b k y e next =
    let x = bind_ok (magic_of place b) k y e in
    let m = magic_takes place b x.0 x.1 in
    next m.0 (ap k m.1 ∙ x.2)

pub taken_reads : (n : ℕ) → Reads (taken n) (λ b. b)
taken_reads n s after b fits e = (taken_takes n s after b e).0

abbrev pub profile_at : Reader Bool
profile_at s = profile_of s.place s.left

pub profile_reads : Reads profile_at profile
profile_reads s after b fits e = profile_of_takes s.place s.left b after e

pub prices_read : Reads (parts_at price_at (length kinds_by_name)) (λ ps. flat_map price_spelling ps)
prices_read s after ps fits e = (parts_take price_at price_spelling price_takes (length kinds_by_name) s after ps fits e).0

head_taken : (s r1 r2 r3 r4 r5 r6 r7 r8 r9 : Spot) (x1 x2 x3 x4 x5 x6 x7 x8 x9 : List ℕ) → Takes s x1 r1 → Takes r1 x2 r2 → Takes r2 x3 r3 → Takes r3 x4 r4
    → Takes r4 x5 r5 → Takes r5 x6 r6 → Takes r6 x7 r7 → Takes r7 x8 r8 → Takes r8 x9 r9 → Takes s (x1 ++ (x2 ++ (x3 ++ (x4 ++ (x5 ++ (x6 ++ (x7 ++ (x8 ++ x9)))))))) r9
head_taken s r1 r2 r3 r4 r5 r6 r7 r8 r9 x1 x2 x3 x4 x5 x6 x7 x8 x9 t1 t2 t3 t4 t5 t6 t7 t8 t9 =
    let u8 = takes_then r7 r8 r9 x8 x9 t8 t9 in
    let u7 = takes_then r6 r7 r9 x7 (x8 ++ x9) t7 u8 in
    let u6 = takes_then r5 r6 r9 x6 (x7 ++ (x8 ++ x9)) t6 u7 in
    let u5 = takes_then r4 r5 r9 x5 (x6 ++ (x7 ++ (x8 ++ x9))) t5 u6 in
    let u4 = takes_then r3 r4 r9 x4 (x5 ++ (x6 ++ (x7 ++ (x8 ++ x9)))) t4 u5 in
    let u3 = takes_then r2 r3 r9 x3 (x4 ++ (x5 ++ (x6 ++ (x7 ++ (x8 ++ x9))))) t3 u4 in
    let u2 = takes_then r1 r2 r9 x2 (x3 ++ (x4 ++ (x5 ++ (x6 ++ (x7 ++ (x8 ++ x9)))))) t2 u3 in
    takes_then s r1 r9 x1 (x2 ++ (x3 ++ (x4 ++ (x5 ++ (x6 ++ (x7 ++ (x8 ++ x9))))))) t1 u2

parts_taken : (s r1 r2 r3 r4 r5 r6 r7 : Spot) (x1 x2 x3 x4 x5 x6 x7 : List ℕ) → Takes s x1 r1 → Takes r1 x2 r2 → Takes r2 x3 r3 → Takes r3 x4 r4
    → Takes r4 x5 r5 → Takes r5 x6 r6 → Takes r6 x7 r7 → Takes s (x1 ++ (x2 ++ ((x3 ++ x4) ++ (x5 ++ (x6 ++ x7))))) r7
parts_taken s r1 r2 r3 r4 r5 r6 r7 x1 x2 x3 x4 x5 x6 x7 t1 t2 t3 t4 t5 t6 t7 =
    let u6 = takes_then r5 r6 r7 x6 x7 t6 t7 in
    let u5 = takes_then r4 r5 r7 x5 (x6 ++ x7) t5 u6 in
    let sums = takes_then r2 r3 r4 x3 x4 t3 t4 in
    let u3 = takes_then r2 r4 r7 (x3 ++ x4) (x5 ++ (x6 ++ x7)) sums u5 in
    let u2 = takes_then r1 r2 r7 x2 ((x3 ++ x4) ++ (x5 ++ (x6 ++ x7))) t2 u3 in
    takes_then s r1 r7 x1 (x2 ++ ((x3 ++ x4) ++ (x5 ++ (x6 ++ x7)))) t1 u2

state_takes : Reads state_at state_spelling
unfolding state_at
state_takes s after x fits e =
    step (taken 8) (λ b. b) (taken_reads 8) s _ (x, after) fits e (λ first r1 t1 f1 e1.
    opening s.place (first, r1) _ (x, after) e1 (λ is_magic e0.
    step (taken 4) (λ b. b) (taken_reads 4) r1 _ (x, after) f1 e0 (λ chain r2 t2 f2 e2.
    step (number_at w32) four (number_takes w32 whole_32) r2 _ (x, after) f2 e2 (λ level r3 t3 f3 e3.
    step (signed_at w64) (signed w64) moment_takes r3 _ (x, after) f3 e3 (λ moment r4 t4 f4 e4.
    step profile_at profile profile_reads r4 _ (x, after) f4 e4 (λ pays r5 t5 f5 e5.
    step (number_at w64) eight (number_takes w64 whole_64) r5 _ (x, after) f5 e5 (λ rate r6 t6 f6 e6.
    step (number_at w64) eight (number_takes w64 whole_64) r6 _ (x, after) f6 e6 (λ groups r7 t7 f7 e7.
    step mark_at mark mark_takes r7 _ (x, after) f7 e7 (λ costs r8 t8 f8 e8.
    step mark_at mark mark_takes r8 _ (x, after) f8 e8 (λ started r9 t9 f9 e9.
    step (parts_at price_at (length kinds_by_name)) (λ ps. flat_map price_spelling ps) prices_read r9 _ (x, after) f9 e9 (λ prices r10 t10 f10 e10.
    step (number_at w64) eight (number_takes w64 whole_64) r10 _ (x, after) f10 e10 (λ fees r11 t11 f11 e11.
    step (number_at w64) eight (number_takes w64 whole_64) r11 _ (x, after) f11 e11 (λ burn r12 t12 f12 e12.
    step (counted_at account_at) (counted account_spelling) (counted_takes account_at account_spelling account_takes) r12 _ (x, after) f12 e12 (λ accounts r13 t13 f13 e13.
    step (counted_at contract_at) (counted contract_spelling) (counted_takes contract_at contract_spelling contract_takes) r13 _ (x, after) f13 e13 (λ contracts r14 t14 f14 e14.
    step (counted_at total_at) (counted total_spelling) (counted_takes total_at total_spelling total_takes) r14 _ (x, after) f14 e14 (λ tickets r15 t15 f15 e15.
    let head = head_taken s r1 r2 r3 r4 r5 r6 r7 r8 r9 magic chain (four level) (signed w64 moment) (profile pays) (eight rate) (eight groups) (mark costs) (mark started)
    (subst (λ (b : List ℕ). Takes s b r1) is_magic t1) t2 t3 t4 t5 t6 t7 t8 t9 in
    let made : State × Spot = (record { chain = chain; level = level; moment = moment; pays = pays; rate = rate; groups = groups; costs_stood = costs; started = started; prices = prices; fees = fees; storage_burn = burn; accounts = accounts; contracts = contracts; tickets = tickets }, r15) in
    subst (λ (p : State × Spot). Takes s (state_spelling p.0) p.1) (ok_is made (x, after) e15)
    (parts_taken s r9 r10 r11 r12 r13 r14 r15 (head_spelling made.0) (flat_map price_spelling prices) (eight fees) (eight burn)
    (counted account_spelling accounts) (counted contract_spelling contracts) (counted total_spelling tickets) head t10 t11 t12 t13 t14 t15)))))))))))))))))

pub states_are_spelt : StatesAreSpelt
unfolding read
states_are_spelt bs s fits e =
    let g = guard_ok (ltb snapshot_limit (length bs)) snapshot_limit (state_at (record { place = 0; left = bs }) >>= λ r. whole r) s e in
    let r = bind_ok (state_at (record { place = 0; left = bs })) (λ r. whole r) s g.1 in
    let t = state_takes (record { place = 0; left = bs }) r.0.1 r.0.0 fits r.1 in
    let w = guard_true (nat_eq (length r.0.1.left) 0) (Ok r.0.0) r.0.1.place s r.2 in
    let end : r.0.1.left ≡ [] = nil_from_length r.0.1.left (eqb-true (length r.0.1.left) 0 w.0) in
    subst (λ (x : State). bs ≡ state_spelling x) (ok_is r.0.0 s w.1)
    (t.0 ∙ ap (λ (xs : List ℕ). state_spelling r.0.0 ++ xs) end ∙ append-nil (state_spelling r.0.0))

pub one_spelling : OneSpelling
one_spelling bs cs s bytes_b bytes_c eb ec = states_are_spelt bs s bytes_b eb ∙ sym (states_are_spelt cs s bytes_c ec)
