-- A state that is read has a spelling.
use Rattle.std.proofs.Common.{◌≡◌, ℕ, zero, suc, ◌<◌, ◌≤◌, ◌^◌, Bool, true, false, ◌&&◌, leb, ltb, nat_eq, List, [], ◌∷◌, length, All, flat_map, Option, Some, None, Result, Ok, refl, sym, subst, arith}
use Rattle.std.specs.Option.{option_map}
use Rattle.std.specs.Prelude.{option_and_then}
use Rattle.std.specs.Int.{w32, w64, w128}
use Rattle.std.proofs.lemmas.Bool.Decides.{nat_tests}
use Rattle.std.proofs.lemmas.List.Elements.{All-nil, All-cons}
use Rattle.rules_text.specs.nodes.Primitives.{primitive_of_code}
use Rattle.rules_text.specs.binary.Reading.{Spot, past}
use Rattle.rules_data.specs.forms.Spelling.{contract_place, is_key_hash}
use Rattle.rules_data.specs.gas.Kinds.{kinds_by_name}
use Rattle.rules_data.specs.declared.types.OneArgument.TheVariants as one
use Rattle.rules_data.specs.declared.types.TwoArguments.TheVariants as two
use Rattle.rules_data.specs.types.Kind.{Kind, nodes}
use Rattle.rules_data.specs.types.Kind as k
use Rattle.rules_data.specs.types.Attributes.{comparable}
use Rattle.rules_data.specs.types.Reading.{Former, simple_type, operation_type, one_argument, two_arguments, pair_type, no_type, former_of}
use Rattle.rules_data.specs.values.Val.{Val}
use Rattle.rules_world.specs.world.World.{Account}
use Rattle.laws_data.specs.binary.Laws.{IsBytes}
use Rattle.rules_files.specs.snapshots.Spelling.{four, eight, signed, mark, profile, node_spelling, value_spelling, kind_spelling, identity_spelling, price_spelling, counted, holding_spelling, account_spelling, contract_spelling, total_spelling}
use Rattle.rules_files.specs.snapshots.Spelt.{HasSpelling, IsIdentity, IsSpeltPrice, IsSpeltHolding, IsSpeltAccount, IsSpeltContract, IsSpeltTotal, IsSpelt}
use Rattle.rules_files.specs.snapshots.Reading.{Reader, ◌>>=◌, taken, number_at, signed_at, mark_at, node_at, kind_by, kind_within, content_nodes, kind_of, kind_at, value_at, identity_at, storage_kind, parts_at, counted_at, key_hash_of, price_at, holding_at, account_at, storage_by, contract_at, total_at, state_at, snapshot_limit, whole, read}
use Rattle.laws_files.specs.snapshots.Laws.{ReadHaveSpelling}
use Rattle.laws_files.proofs.snapshots_lemmas.Fields.{bind_ok, guard_ok, ok_is, Reads, taken_takes, whole_32, whole_64, number_takes, moment_takes, amount_takes, mark_takes, node_takes}
use Rattle.laws_files.proofs.snapshots_lemmas.Values.{value_takes}
use Rattle.laws_files.proofs.snapshots_lemmas.ContentTypes.{kind_takes}
use Rattle.laws_files.proofs.snapshots_lemmas.Parts.{opening, guard_true, taken_reads, profile_at, profile_reads, prices_read, parts_take, identity_takes, price_takes, holding_takes, total_takes, counted_takes, account_takes, storage_takes, contract_takes}
use Rattle.laws_files.proofs.snapshots_lemmas.Made.{Makes, reads_then, result_is, four_made, eight_made, moment_made, amount_made, node_made, value_made}

-- ---- types

abbrev found : {A : Type 0} → A → Option A
found x = Some x

some_is : {A : Type 0} (x y : A) → found x ≡ found y → x ≡ y
some_is x y e = cc

abbrev IsComparable : Kind × List ℕ → Type 0
IsComparable p = comparable p.0 ≡ true

both_true : (a b : Bool) → a ≡ true → b ≡ true → a && b ≡ true
both_true true b ha hb = hb
both_true false b ha hb = absurd cc

one_comparable : (o : Option (Kind × List ℕ)) (p : Kind × List ℕ) → ((q : Kind × List ℕ) → o ≡ Some q → IsComparable q)
    → option_map (λ (a : Kind × List ℕ). let r : Kind × List ℕ = (k.option a.0, a.1) in r) o ≡ Some p → IsComparable p
one_comparable None p all e = absurd cc
one_comparable (Some q) p all e = subst IsComparable (some_is (k.option q.0, q.1) p e) (all q refl)

second_comparable : (made : Kind → Kind → Kind) → ((a b : Kind) → comparable a ≡ true → comparable b ≡ true → comparable (made a b) ≡ true)
    → (a : Kind) → comparable a ≡ true → (o : Option (Kind × List ℕ)) (p : Kind × List ℕ) → ((q : Kind × List ℕ) → o ≡ Some q → IsComparable q)
    → option_map (λ (b : Kind × List ℕ). let r : Kind × List ℕ = (made a b.0, b.1) in r) o ≡ Some p → IsComparable p
second_comparable made parts a ha None p all e = absurd cc
second_comparable made parts a ha (Some q) p all e = subst IsComparable (some_is (made a q.0, q.1) p e) (parts a q.0 ha (all q refl))

abbrev second_read : (Kind → Kind → Kind) → (List ℕ → Option (Kind × List ℕ)) → Kind × List ℕ → Option (Kind × List ℕ)
second_read made next x = option_map (λ (y : Kind × List ℕ). let p : Kind × List ℕ = (made x.0 y.0, y.1) in p) (next x.1)

two_comparable : (made : Kind → Kind → Kind) → ((a b : Kind) → comparable a ≡ true → comparable b ≡ true → comparable (made a b) ≡ true)
    → (next : List ℕ → Option (Kind × List ℕ)) → ((bs : List ℕ) (q : Kind × List ℕ) → next bs ≡ Some q → IsComparable q)
    → (o : Option (Kind × List ℕ)) (p : Kind × List ℕ) → ((q : Kind × List ℕ) → o ≡ Some q → IsComparable q)
    → option_and_then (second_read made next) o ≡ Some p → IsComparable p
two_comparable made parts next all None p first e = absurd cc
two_comparable made parts next all (Some x) p first e = second_comparable made parts x.0 (first x refl) (next x.1) p (λ q is. all x.1 q is) e

by_comparable : (f : Former) (next : List ℕ → Option (Kind × List ℕ)) → ((bs : List ℕ) (q : Kind × List ℕ) → next bs ≡ Some q → IsComparable q)
    → (bs : List ℕ) (p : Kind × List ℕ) → kind_by f next bs ≡ Some p → IsComparable p
by_comparable (simple_type c) next all bs p e = subst IsComparable (some_is (k.simple c, bs) p e) refl
by_comparable operation_type next all bs p e = absurd cc
by_comparable (one_argument one.Option) next all bs p e = one_comparable (next bs) p (λ q is. all bs q is) e
by_comparable (one_argument one.List) next all bs p e = absurd cc
by_comparable (one_argument one.Set) next all bs p e = absurd cc
by_comparable (one_argument one.Contract) next all bs p e = absurd cc
by_comparable (one_argument one.Ticket) next all bs p e = absurd cc
by_comparable (two_arguments two.Or) next all bs p e = two_comparable k.or (λ a b ha hb. both_true (comparable a) (comparable b) ha hb) next all (next bs) p (λ q is. all bs q is) e
by_comparable (two_arguments two.Map) next all bs p e = absurd cc
by_comparable (two_arguments two.BigMap) next all bs p e = absurd cc
by_comparable (two_arguments two.Lambda) next all bs p e = absurd cc
by_comparable pair_type next all bs p e = two_comparable k.pair (λ a b ha hb. both_true (comparable a) (comparable b) ha hb) next all (next bs) p (λ q is. all bs q is) e
by_comparable no_type next all bs p e = absurd cc

within_comparable : (n : ℕ) (bs : List ℕ) (p : Kind × List ℕ) → kind_within n bs ≡ Some p → IsComparable p
within_comparable zero bs p e = absurd cc
within_comparable (suc n) [] p e = absurd cc
within_comparable (suc n) (b ∷ bs) p e = by_comparable (former_of (primitive_of_code b)) (kind_within n) (within_comparable n) bs p e

abbrev IsContentType : Kind → Type 0
IsContentType a = (comparable a ≡ true) × (nodes a ≤ content_nodes)

kind_of_made : (o : Option (Kind × List ℕ)) (s after : Spot) (a : Kind) → ((p : Kind × List ℕ) → o ≡ Some p → IsComparable p) → kind_of o s ≡ Ok (a, after) → IsContentType a
kind_of_made None s after a all e = absurd cc
kind_of_made (Some p) s after a all e =
    let g = guard_true (leb (nodes p.0) content_nodes) (Ok (p.0, past (nodes p.0) s)) s.place (a, after) e in
    let few : nodes p.0 ≤ content_nodes = grind (arith, nat_tests, g.0) in
    result_is IsContentType p.0 a (past (nodes p.0) s) after (all p refl, few) g.1

kind_made : Makes kind_at IsContentType
unfolding kind_at
kind_made s after a fits e = kind_of_made (kind_within content_nodes s.left) s after a (λ p is. within_comparable content_nodes s.left p is) e

-- ---- small parts

identity_made : Makes identity_at IsIdentity
unfolding identity_at
identity_made s after x fits e =
    reads_then (taken 20) (λ b. b) (taken_reads 20) s _ (x, after) fits e (λ h r is more back.
    reads_then kind_at kind_spelling kind_takes r _ (x, after) more back (λ a q at rest again.
    reads_then (value_at a) value_spelling (value_takes a) q _ (x, after) rest again (λ c t so last end.
    let kind = kind_made r q a more at in
    result_is IsIdentity (record { issuer = contract_place h; kind = a; content = c }) x t after
    ((h, (taken_takes 20 s r h is).1, refl), kind.0, kind.1, value_made a q t c rest so) end)))

price_made : Makes price_at IsSpeltPrice
unfolding price_at
price_made s after x fits e =
    reads_then (number_at w32) four (number_takes w32 whole_32) s _ (x, after) fits e (λ a r is more back.
    reads_then (number_at w32) four (number_takes w32 whole_32) r _ (x, after) more back (λ b q at rest again.
    result_is IsSpeltPrice (record { base = a; coefficient = b }) x q after (four_made s r a fits is, four_made r q b more at) again))

holding_made : Makes holding_at IsSpeltHolding
unfolding holding_at
holding_made s after x fits e =
    reads_then identity_at identity_spelling identity_takes s _ (x, after) fits e (λ a r is more back.
    reads_then (signed_at w128) (signed w128) amount_takes r _ (x, after) more back (λ b q at rest again.
    result_is IsSpeltHolding (a, b) x q after (identity_made s r a fits is, amount_made r q b more at) again))

total_made : Makes total_at IsSpeltTotal
unfolding total_at
total_made s after x fits e =
    reads_then identity_at identity_spelling identity_takes s _ (x, after) fits e (λ a r is more back.
    reads_then (signed_at w128) (signed w128) amount_takes r _ (x, after) more back (λ b q at rest again.
    reads_then (signed_at w128) (signed w128) amount_takes q _ (x, after) rest again (λ c t so last end.
    result_is IsSpeltTotal (record { identity = a; minted = b; burnt = c }) x t after (identity_made s r a fits is, amount_made r q b more at, amount_made q t c rest so) end)))

-- ---- lists of parts

parts_made : {A : Type 0} (f : Reader A) (spell : A → List ℕ) (P : A → Type 0) → Reads f spell → Makes f P → (n : ℕ) → Makes (parts_at f n) (All P)
parts_made {A} f spell P reads makes zero s after xs fits e = result_is (All P) [] xs s after (All-nil P) e
parts_made {A} f spell P reads makes (suc n) s after xs fits e =
    reads_then f spell reads s _ (xs, after) fits e (λ x r is more back.
    let b = bind_ok (parts_at f n r) (λ ys. Ok (x ∷ ys.0, ys.1)) (xs, after) back in
    result_is (All P) (x ∷ b.0.0) xs b.0.1 after (All-cons P x b.0.0 (makes s r x fits is) (parts_made f spell P reads makes n r b.0.1 b.0.0 more b.1)) b.2)

abbrev AreCounted : {A : Type 0} → (A → Type 0) → List A → Type 0
AreCounted P xs = (length xs < 2 ^ 64) × All P xs

counted_made : {A : Type 0} (f : Reader A) (spell : A → List ℕ) (P : A → Type 0) → Reads f spell → Makes f P → Makes (counted_at f) (AreCounted P)
counted_made f spell P reads makes s after xs fits e =
    reads_then (number_at w64) eight (number_takes w64 whole_64) s _ (xs, after) fits e (λ n r is more back.
    (subst (λ (m : ℕ). m < 2 ^ 64) (sym (parts_take f spell reads n r after xs more back).1) (eight_made s r n fits is), parts_made f spell P reads makes n r after xs more back))

-- ---- accounts and contracts

-- what is read of an account behind its key hash
abbrev behind_key_hash : List ℕ × Spot → Result ((List ℕ × Account) × Spot) ℕ
behind_key_hash who = number_at w64 who.1 >>= λ n. counted_at holding_at n.1 >>= λ hs. Ok ((who.0, record { balance = n.0; holdings = hs.0 }), hs.1)

abbrev account_ok : List ℕ × Account → Spot → Result ((List ℕ × Account) × Spot) ℕ
account_ok x after = Ok (x, after)

account_made : Makes account_at IsSpeltAccount
unfolding account_at
account_made s after x fits e =
    reads_then (taken 21) (λ b. b) (taken_reads 21) s _ (x, after) fits e (λ b r is more back.
    let who = bind_ok (key_hash_of s.place (b, r)) (λ who. number_at w64 who.1 >>= λ n. counted_at holding_at n.1 >>= λ hs. Ok ((who.0, record { balance = n.0; holdings = hs.0 }), hs.1)) (x, after) back in
    let g = guard_true (is_key_hash b) (Ok (b, r)) s.place who.0 who.1 in
    let same : who.0 ≡ (b, r) = sym (ok_is (b, r) who.0 g.1) in
    reads_then (number_at w64) eight (number_takes w64 whole_64) r _ (x, after) more
    (subst (λ (p : List ℕ × Spot). behind_key_hash p ≡ account_ok x after) same who.2) (λ n q at rest again.
    reads_then (counted_at holding_at) (counted holding_spelling) (counted_takes holding_at holding_spelling holding_takes) q _ (x, after) rest again (λ hs t so last end.
    let held = counted_made holding_at holding_spelling IsSpeltHolding holding_takes holding_made q t hs rest so in
    result_is IsSpeltAccount (b, record { balance = n; holdings = hs }) x t after (g.0, eight_made r q n more at, held.0, held.1) end)))

storage_made : (o : Option Kind) (place : ℕ) (s after : Spot) (x : Val) → IsBytes s.left → storage_by o place s ≡ Ok (x, after) → (a : Kind) × (o ≡ Some a) × HasSpelling a x
storage_made None place s after x fits e = absurd cc
storage_made (Some a) place s after x fits e = (a, refl, value_made a s after x fits e)

contract_made : Makes contract_at IsSpeltContract
unfolding contract_at
contract_made s after x fits e =
    reads_then (taken 20) (λ b. b) (taken_reads 20) s _ (x, after) fits e (λ h r1 i1 f1 e1.
    reads_then (number_at w64) eight (number_takes w64 whole_64) r1 _ (x, after) f1 e1 (λ b r2 i2 f2 e2.
    reads_then (number_at w64) eight (number_takes w64 whole_64) r2 _ (x, after) f2 e2 (λ p r3 i3 f3 e3.
    reads_then node_at node_spelling node_takes r3 _ (x, after) f3 e3 (λ t r4 i4 f4 e4.
    reads_then (storage_by (storage_kind t) r3.place) value_spelling (storage_takes (storage_kind t) r3.place) r4 _ (x, after) f4 e4 (λ y r5 i5 f5 e5.
    result_is IsSpeltContract (h, record { balance = b; paid = p; script = t; storage = y }) x r5 after
    ((taken_takes 20 s r1 h i1).1, eight_made r1 r2 b f1 i2, eight_made r2 r3 p f2 i3, node_made r3 r4 t f3 i4, storage_made (storage_kind t) r3.place r4 r5 y f4 i5) e5)))))

-- ---- the state

state_made : Makes state_at IsSpelt
unfolding state_at
state_made s after x fits e =
    reads_then (taken 8) (λ b. b) (taken_reads 8) s _ (x, after) fits e (λ first r1 i1 f1 e1.
    opening s.place (first, r1) _ (x, after) e1 (λ is_magic e0.
    reads_then (taken 4) (λ b. b) (taken_reads 4) r1 _ (x, after) f1 e0 (λ chain r2 i2 f2 e2.
    reads_then (number_at w32) four (number_takes w32 whole_32) r2 _ (x, after) f2 e2 (λ level r3 i3 f3 e3.
    reads_then (signed_at w64) (signed w64) moment_takes r3 _ (x, after) f3 e3 (λ moment r4 i4 f4 e4.
    reads_then profile_at profile profile_reads r4 _ (x, after) f4 e4 (λ pays r5 i5 f5 e5.
    reads_then (number_at w64) eight (number_takes w64 whole_64) r5 _ (x, after) f5 e5 (λ rate r6 i6 f6 e6.
    reads_then (number_at w64) eight (number_takes w64 whole_64) r6 _ (x, after) f6 e6 (λ groups r7 i7 f7 e7.
    reads_then mark_at mark mark_takes r7 _ (x, after) f7 e7 (λ costs r8 i8 f8 e8.
    reads_then mark_at mark mark_takes r8 _ (x, after) f8 e8 (λ started r9 i9 f9 e9.
    reads_then (parts_at price_at (length kinds_by_name)) (λ ps. flat_map price_spelling ps) prices_read r9 _ (x, after) f9 e9 (λ prices r10 i10 f10 e10.
    reads_then (number_at w64) eight (number_takes w64 whole_64) r10 _ (x, after) f10 e10 (λ fees r11 i11 f11 e11.
    reads_then (number_at w64) eight (number_takes w64 whole_64) r11 _ (x, after) f11 e11 (λ burn r12 i12 f12 e12.
    reads_then (counted_at account_at) (counted account_spelling) (counted_takes account_at account_spelling account_takes) r12 _ (x, after) f12 e12 (λ accounts r13 i13 f13 e13.
    reads_then (counted_at contract_at) (counted contract_spelling) (counted_takes contract_at contract_spelling contract_takes) r13 _ (x, after) f13 e13 (λ contracts r14 i14 f14 e14.
    reads_then (counted_at total_at) (counted total_spelling) (counted_takes total_at total_spelling total_takes) r14 _ (x, after) f14 e14 (λ tickets r15 i15 f15 e15.
    result_is IsSpelt (record { chain = chain; level = level; moment = moment; pays = pays; rate = rate; groups = groups; costs_stood = costs; started = started; prices = prices; fees = fees; storage_burn = burn; accounts = accounts; contracts = contracts; tickets = tickets }) x r15 after
    (record {
      chain = (taken_takes 4 r1 r2 chain i2).1;
      level = four_made r2 r3 level f2 i3;
      moment = moment_made r3 r4 moment f3 i4;
      rate = eight_made r5 r6 rate f5 i6;
      groups = eight_made r6 r7 groups f6 i7;
      prices = ((parts_take price_at price_spelling price_takes (length kinds_by_name) r9 r10 prices f9 i10).1, parts_made price_at price_spelling IsSpeltPrice price_takes price_made (length kinds_by_name) r9 r10 prices f9 i10);
      fees = eight_made r10 r11 fees f10 i11;
      storage_burn = eight_made r11 r12 burn f11 i12;
      accounts = counted_made account_at account_spelling IsSpeltAccount account_takes account_made r12 r13 accounts f12 i13;
      contracts = counted_made contract_at contract_spelling IsSpeltContract contract_takes contract_made r13 r14 contracts f13 i14;
      tickets = counted_made total_at total_spelling IsSpeltTotal total_takes total_made r14 r15 tickets f14 i15;
    }) e15))))))))))))))))

pub read_have_spelling : ReadHaveSpelling
unfolding read
read_have_spelling bs s fits e =
    let g = guard_ok (ltb snapshot_limit (length bs)) snapshot_limit (state_at (record { place = 0; left = bs }) >>= λ r. whole r) s e in
    let r = bind_ok (state_at (record { place = 0; left = bs })) (λ r. whole r) s g.1 in
    let w = guard_true (nat_eq (length r.0.1.left) 0) (Ok r.0.0) r.0.1.place s r.2 in
    subst IsSpelt (ok_is r.0.0 s w.1) (state_made (record { place = 0; left = bs }) r.0.1 r.0.0 fits r.1)
