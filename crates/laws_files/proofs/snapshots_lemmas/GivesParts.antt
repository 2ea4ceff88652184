-- The parts of a state are read from their spelling, and so is the state.
use Rattle.std.proofs.Common.{◌≡◌, ℕ, zero, suc, ◌+◌, ◌<◌, ◌≤◌, ◌^◌, Bool, true, false, ◌&&◌, cond, nat_lt, nat_le, nat_eq, ℤ, List, [], ◌∷◌, ◌++◌, length, drop, codes, flat_map, All, Option, Some, Ok, Err, refl, sym, ap, subst, ◌∙◌, append_assoc, append-nil, arith}
use Rattle.std.specs.Option.{option_map}
use Rattle.std.specs.Prelude.{option_and_then}
use Rattle.std.specs.Int.{w32, w64, w128}
use Rattle.std.proofs.Math.Seq.{drop-append_seam}
use Rattle.std.proofs.lemmas.Bool.Decides.{nat_tests}
use Rattle.std.proofs.lemmas.List.Elements.{All-head, All-tail}
use Rattle.rules_text.specs.nodes.Primitives.{primitive_names, primitives, code_of_name, primitive_of_code}
use Rattle.rules_text.specs.binary.Spelling.{code}
use Rattle.rules_text.specs.binary.Reading.{Spot}
use Rattle.rules_code.specs.evaluation.Contracts.{hash_in}
use Rattle.rules_code.specs.evaluation.Surroundings.{Contract}
use Rattle.rules_data.specs.forms.Spelling.{contract_place, is_key_hash}
use Rattle.rules_data.specs.gas.Kinds.{kinds_by_name}
use Rattle.rules_data.specs.gas.Prices.{Price}
use Rattle.rules_data.specs.declared.types.Simple.{Simple}
use Rattle.rules_data.specs.declared.types.Simple.TheVariants as s
use Rattle.rules_data.specs.declared.types.OneArgument.TheVariants as one
use Rattle.rules_data.specs.declared.types.TwoArguments.TheVariants as two
use Rattle.rules_data.specs.types.Kind.{Kind, nodes}
use Rattle.rules_data.specs.types.Kind as k
use Rattle.rules_data.specs.types.Attributes.{comparable}
use Rattle.rules_data.specs.types.Printing.{simple_name}
use Rattle.rules_data.specs.types.Reading.{simple_type, one_argument, two_arguments, pair_type, former_of}
use Rattle.rules_data.specs.values.Val.{Val}
use Rattle.rules_data.specs.values.Tickets.{Identity}
use Rattle.rules_world.specs.world.World.{Account}
use Rattle.rules_files.specs.snapshots.State.{State, Total}
use Rattle.rules_files.specs.snapshots.Spelling.{four, eight, signed, mark, magic, profile, node_spelling, value_spelling, kind_spelling, identity_spelling, price_spelling, counted, holding_spelling, account_spelling, contract_spelling, total_spelling, state_spelling}
use Rattle.rules_files.specs.snapshots.Reading.{Reader, ◌>>=◌, taken, number_at, signed_at, mark_at, node_at, kind_by, kind_within, content_nodes, kind_of, kind_at, value_at, identity_at, storage_kind, parts_at, counted_at, magic_of, profile_of, price_at, holding_at, key_hash_of, account_at, storage_by, contract_at, total_at, state_at, snapshot_limit, whole, read}
use Rattle.rules_files.specs.snapshots.Spelt.{IsIdentity, IsSpeltPrice, IsSpeltHolding, IsSpeltAccount, IsSpeltContract, IsSpeltTotal, IsSpelt}
use Rattle.laws_files.proofs.snapshots_lemmas.ContentTypes.{one_part, two_parts, kind_length}
use Rattle.laws_files.proofs.snapshots_lemmas.Values.{hash_is}
use Rattle.laws_files.proofs.snapshots_lemmas.Gives.{spot, Gives, then_gives, placed_gives, last_gives, taken_as, four_gives, eight_gives, moment_gives, amount_gives, mark_gives, node_gives, value_gives}

-- ---- types

simple_back : (c : Simple) → former_of (primitive_of_code (code (simple_name c))) ≡ simple_type c
unfolding primitive_of_code primitives primitive_names code_of_name
simple_back s.Unit = refl
simple_back s.Never = refl
simple_back s.Bool = refl
simple_back s.Int = refl
simple_back s.Nat = refl
simple_back s.String = refl
simple_back s.Bytes = refl
simple_back s.Mutez = refl
simple_back s.Timestamp = refl
simple_back s.Key = refl
simple_back s.KeyHash = refl
simple_back s.Signature = refl
simple_back s.ChainId = refl
simple_back s.Address = refl

option_back : former_of (primitive_of_code (code (codes "option"))) ≡ one_argument one.Option
unfolding primitive_of_code primitives primitive_names code_of_name
option_back = refl

or_back : former_of (primitive_of_code (code (codes "or"))) ≡ two_arguments two.Or
unfolding primitive_of_code primitives primitive_names code_of_name
or_back = refl

pair_back : former_of (primitive_of_code (code (codes "pair"))) ≡ pair_type
unfolding primitive_of_code primitives primitive_names code_of_name
pair_back = refl

and_first : (a b : Bool) → a && b ≡ true → a ≡ true
and_first true b e = refl
and_first false b e = e

and_second : (a b : Bool) → a && b ≡ true → b ≡ true
and_second true b e = e
and_second false b e = absurd cc

-- two types behind a code
abbrev second_read : (Kind → Kind → Kind) → (List ℕ → Option (Kind × List ℕ)) → Kind × List ℕ → Option (Kind × List ℕ)
second_read made next x = option_map (λ (y : Kind × List ℕ). let p : Kind × List ℕ = (made x.0 y.0, y.1) in p) (next x.1)

both_back : (made : Kind → Kind → Kind) (next : List ℕ → Option (Kind × List ℕ)) (a b : Kind) (rest : List ℕ)
    → next (kind_spelling a ++ (kind_spelling b ++ rest)) ≡ Some (a, kind_spelling b ++ rest) → next (kind_spelling b ++ rest) ≡ Some (b, rest)
    → option_and_then (second_read made next) (next ((kind_spelling a ++ kind_spelling b) ++ rest)) ≡ Some (made a b, rest)
both_back made next a b rest first second =
    ap (λ (l : List ℕ). option_and_then (second_read made next) (next l)) (append_assoc (kind_spelling a) (kind_spelling b) rest)
    ∙ ap (λ o. option_and_then (second_read made next) o) first
    ∙ ap (λ o. option_map (λ (y : Kind × List ℕ). let p : Kind × List ℕ = (made a y.0, y.1) in p) o) second

kind_back : (a : Kind) (n : ℕ) (rest : List ℕ) → comparable a ≡ true → nodes a ≤ n → kind_within n (kind_spelling a ++ rest) ≡ Some (a, rest)
kind_back (k.simple c) zero rest h l = absurd (omega (arith, l))
kind_back (k.simple c) (suc n) rest h l = ap (λ f. kind_by f (kind_within n) rest) (simple_back c)
kind_back (k.option a) zero rest h l = absurd (omega (arith, l))
kind_back (k.option a) (suc n) rest h l =
    ap (λ (t : List ℕ). kind_within (suc n) (t ++ rest)) (one_part (code (codes "option")) a)
    ∙ ap (λ f. kind_by f (kind_within n) (kind_spelling a ++ rest)) option_back
    ∙ ap (λ o. option_map (λ (x : Kind × List ℕ). let p : Kind × List ℕ = (k.option x.0, x.1) in p) o) (kind_back a n rest h (omega (arith, l)))
kind_back (k.or a b) zero rest h l = absurd (omega (arith, l))
kind_back (k.or a b) (suc n) rest h l =
    ap (λ (t : List ℕ). kind_within (suc n) (t ++ rest)) (two_parts (code (codes "or")) a b)
    ∙ ap (λ f. kind_by f (kind_within n) ((kind_spelling a ++ kind_spelling b) ++ rest)) or_back
    ∙ both_back k.or (kind_within n) a b rest (kind_back a n (kind_spelling b ++ rest) (and_first (comparable a) (comparable b) h) (omega (arith, l)))
    (kind_back b n rest (and_second (comparable a) (comparable b) h) (omega (arith, l)))
kind_back (k.pair a b) zero rest h l = absurd (omega (arith, l))
kind_back (k.pair a b) (suc n) rest h l =
    ap (λ (t : List ℕ). kind_within (suc n) (t ++ rest)) (two_parts (code (codes "pair")) a b)
    ∙ ap (λ f. kind_by f (kind_within n) ((kind_spelling a ++ kind_spelling b) ++ rest)) pair_back
    ∙ both_back k.pair (kind_within n) a b rest (kind_back a n (kind_spelling b ++ rest) (and_first (comparable a) (comparable b) h) (omega (arith, l)))
    (kind_back b n rest (and_second (comparable a) (comparable b) h) (omega (arith, l)))
kind_back k.operation n rest h l = absurd cc
kind_back (k.list a) n rest h l = absurd cc
kind_back (k.set a) n rest h l = absurd cc
kind_back (k.map a b) n rest h l = absurd cc
kind_back (k.big_map a b) n rest h l = absurd cc
kind_back (k.lambda a b) n rest h l = absurd cc
kind_back (k.contract a) n rest h l = absurd cc
kind_back (k.ticket a) n rest h l = absurd cc

kind_of_back : (a : Kind) (place : ℕ) (rest : List ℕ) → nodes a ≤ content_nodes → length (kind_spelling a) ≡ nodes a
    → kind_of (Some (a, rest)) (spot place (kind_spelling a ++ rest)) ≡ Ok (a, spot (place + nodes a) rest)
kind_of_back a place rest l len =
    let small : nat_le (nodes a) content_nodes ≡ true = grind (arith, nat_tests, l) in
    let back : drop (nodes a) (kind_spelling a ++ rest) ≡ rest = ap (λ (n : ℕ). drop n (kind_spelling a ++ rest)) (sym len) ∙ drop-append_seam (kind_spelling a) rest in
    rw (small, back) refl

kind_gives : (a : Kind) → comparable a ≡ true → nodes a ≤ content_nodes → Gives kind_at (kind_spelling a) a
unfolding kind_at
kind_gives a h l place rest =
    (place + nodes a, ap (λ o. kind_of o (spot place (kind_spelling a ++ rest))) (kind_back a content_nodes rest h l) ∙ kind_of_back a place rest l (kind_length a))

-- ---- small parts

identity_gives : (id : Identity) → IsIdentity id → Gives identity_at (identity_spelling id) id
unfolding identity_at
identity_gives id h =
    let hash = h.0.0 in
    let made : Identity = record { issuer = contract_place hash; kind = id.kind; content = id.content } in
    let gives : Gives identity_at (hash ++ (kind_spelling id.kind ++ value_spelling id.content)) made =
    then_gives (taken 20) (λ i. kind_at i.1 >>= λ a. value_at a.0 a.1 >>= λ c. Ok (record { issuer = contract_place i.0; kind = a.0; content = c.0 }, c.1)) hash
    (kind_spelling id.kind ++ value_spelling id.content) hash made (taken_as 20 hash h.0.1)
    (then_gives kind_at (λ a. value_at a.0 a.1 >>= λ c. Ok (record { issuer = contract_place hash; kind = a.0; content = c.0 }, c.1)) (kind_spelling id.kind)
    (value_spelling id.content) id.kind made (kind_gives id.kind h.1 h.2)
    (last_gives (value_at id.kind) (λ c. record { issuer = contract_place hash; kind = id.kind; content = c }) (value_spelling id.content) id.content (value_gives id.kind id.content h.3))) in
    let issuer : contract_place hash ≡ id.issuer = sym h.0.2 in
    let text : hash ≡ hash_in id.issuer = sym (hash_is hash h.0.1) ∙ ap hash_in issuer in
    subst (λ (b : List ℕ). Gives identity_at (b ++ (kind_spelling id.kind ++ value_spelling id.content)) id) text
    (subst (λ (p : List ℕ). Gives identity_at (hash ++ (kind_spelling id.kind ++ value_spelling id.content)) (record { issuer = p; kind = id.kind; content = id.content })) issuer gives)

price_gives : (p : Price) → IsSpeltPrice p → Gives price_at (price_spelling p) p
unfolding price_at
price_gives p h =
    then_gives (number_at w32) (λ a. number_at w32 a.1 >>= λ b. Ok (record { base = a.0; coefficient = b.0 }, b.1)) (four p.base) (four p.coefficient) p.base p (four_gives p.base h.0)
    (last_gives (number_at w32) (λ n. record { base = p.base; coefficient = n }) (four p.coefficient) p.coefficient (four_gives p.coefficient h.1))

holding_gives : (x : Identity × ℤ) → IsSpeltHolding x → Gives holding_at (holding_spelling x) x
unfolding holding_at
holding_gives x h =
    then_gives identity_at (λ a. signed_at w128 a.1 >>= λ b. Ok ((a.0, b.0), b.1)) (identity_spelling x.0) (signed w128 x.1) x.0 x (identity_gives x.0 h.0)
    (last_gives (signed_at w128) (λ n. (x.0, n)) (signed w128 x.1) x.1 (amount_gives x.1 h.1))

total_gives : (t : Total) → IsSpeltTotal t → Gives total_at (total_spelling t) t
unfolding total_at
total_gives t h =
    then_gives identity_at (λ a. signed_at w128 a.1 >>= λ b. signed_at w128 b.1 >>= λ c. Ok (record { identity = a.0; minted = b.0; burnt = c.0 }, c.1)) (identity_spelling t.identity)
    (signed w128 t.minted ++ signed w128 t.burnt) t.identity t (identity_gives t.identity h.0)
    (then_gives (signed_at w128) (λ b. signed_at w128 b.1 >>= λ c. Ok (record { identity = t.identity; minted = b.0; burnt = c.0 }, c.1)) (signed w128 t.minted) (signed w128 t.burnt) t.minted t
    (amount_gives t.minted h.1)
    (last_gives (signed_at w128) (λ n. record { identity = t.identity; minted = t.minted; burnt = n }) (signed w128 t.burnt) t.burnt (amount_gives t.burnt h.2)))

-- ---- lists of parts

parts_give : {A : Type 0} (f : Reader A) (spell : A → List ℕ) (P : A → Type 0) → ((x : A) → P x → Gives f (spell x) x) → (xs : List A) → All P xs
    → Gives (parts_at f (length xs)) (flat_map spell xs) xs
parts_give f spell P gives [] h = λ place rest. (place, refl)
parts_give f spell P gives (x ∷ xs) h =
    then_gives f (λ a. parts_at f (length xs) a.1 >>= λ b. Ok (a.0 ∷ b.0, b.1)) (spell x) (flat_map spell xs) x (x ∷ xs) (gives x (All-head P x xs h))
    (last_gives (parts_at f (length xs)) (λ ys. x ∷ ys) (flat_map spell xs) xs (parts_give f spell P gives xs (All-tail P x xs h)))

counted_gives : {A : Type 0} (f : Reader A) (spell : A → List ℕ) (P : A → Type 0) → ((x : A) → P x → Gives f (spell x) x) → (xs : List A) → length xs < 2 ^ 64 → All P xs
    → Gives (counted_at f) (counted spell xs) xs
counted_gives f spell P gives xs l h =
    then_gives (number_at w64) (λ n. parts_at f n.0 n.1) (eight (length xs)) (flat_map spell xs) (length xs) xs (eight_gives (length xs) l) (parts_give f spell P gives xs h)

-- ---- accounts and contracts

key_hash_back : (place : ℕ) (b : List ℕ) (r : Spot) → is_key_hash b ≡ true → key_hash_of place (b, r) ≡ Ok (b, r)
key_hash_back place b r h = rw h refl

key_hash_length : (b : List ℕ) → is_key_hash b ≡ true → length b ≡ 21
key_hash_length [] h = absurd cc
key_hash_length (tag ∷ hash) h = grind (arith, nat_tests, and_second (nat_le tag 3) (nat_eq (length hash) 20) h)

account_gives : (a : List ℕ × Account) → IsSpeltAccount a → Gives account_at (account_spelling a) a
unfolding account_at
account_gives a h =
    placed_gives (taken 21) (λ p b. key_hash_of p b >>= λ who. number_at w64 who.1 >>= λ n. counted_at holding_at n.1 >>= λ hs. Ok ((who.0, record { balance = n.0; holdings = hs.0 }), hs.1))
    a.0 (eight a.1.balance ++ counted holding_spelling a.1.holdings) a.0 a (taken_as 21 a.0 (key_hash_length a.0 h.0))
    (λ p place more.
    let inner = then_gives (number_at w64) (λ n. counted_at holding_at n.1 >>= λ hs. Ok ((a.0, record { balance = n.0; holdings = hs.0 }), hs.1)) (eight a.1.balance)
    (counted holding_spelling a.1.holdings) a.1.balance a (eight_gives a.1.balance h.1)
    (last_gives (counted_at holding_at) (λ hs. (a.0, record { balance = a.1.balance; holdings = hs })) (counted holding_spelling a.1.holdings) a.1.holdings
    (counted_gives holding_at holding_spelling IsSpeltHolding holding_gives a.1.holdings h.2 h.3)) place more in
    let text = (eight a.1.balance ++ counted holding_spelling a.1.holdings) ++ more in
    (inner.0, ap (λ r. r >>= λ who. number_at w64 who.1 >>= λ n. counted_at holding_at n.1 >>= λ hs. Ok ((who.0, record { balance = n.0; holdings = hs.0 }), hs.1)) (key_hash_back p a.0 (spot place text) h.0) ∙ inner.1))

storage_gives : (o : Option Kind) (a : Kind) (place : ℕ) (text : List ℕ) (x : Val) → o ≡ Some a → Gives (value_at a) text x → Gives (storage_by o place) text x
storage_gives o a place text x is gives = subst (λ (p : Option Kind). Gives (storage_by p place) text x) (sym is) gives

contract_gives : (c : List ℕ × Contract) → IsSpeltContract c → Gives contract_at (contract_spelling c) c
unfolding contract_at
contract_gives c h =
    then_gives (taken 20) (λ h. number_at w64 h.1 >>= λ b. number_at w64 b.1 >>= λ p. node_at p.1 >>= λ t. storage_by (storage_kind t.0) p.1.place t.1 >>= λ y. Ok ((h.0, record { balance = b.0; paid = p.0; script = t.0; storage = y.0 }), y.1))
    c.0 (eight c.1.balance ++ (eight c.1.paid ++ (node_spelling c.1.script ++ value_spelling c.1.storage))) c.0 c (taken_as 20 c.0 h.0)
    (then_gives (number_at w64) (λ b. number_at w64 b.1 >>= λ p. node_at p.1 >>= λ t. storage_by (storage_kind t.0) p.1.place t.1 >>= λ y. Ok ((c.0, record { balance = b.0; paid = p.0; script = t.0; storage = y.0 }), y.1))
    (eight c.1.balance) (eight c.1.paid ++ (node_spelling c.1.script ++ value_spelling c.1.storage)) c.1.balance c (eight_gives c.1.balance h.1)
    (then_gives (number_at w64) (λ p. node_at p.1 >>= λ t. storage_by (storage_kind t.0) p.1.place t.1 >>= λ y. Ok ((c.0, record { balance = c.1.balance; paid = p.0; script = t.0; storage = y.0 }), y.1))
    (eight c.1.paid) (node_spelling c.1.script ++ value_spelling c.1.storage) c.1.paid c (eight_gives c.1.paid h.2)
    (placed_gives node_at (λ q t. storage_by (storage_kind t.0) q t.1 >>= λ y. Ok ((c.0, record { balance = c.1.balance; paid = c.1.paid; script = t.0; storage = y.0 }), y.1))
    (node_spelling c.1.script) (value_spelling c.1.storage) c.1.script c (node_gives c.1.script h.3)
    (λ q. last_gives (storage_by (storage_kind c.1.script) q) (λ y. (c.0, record { balance = c.1.balance; paid = c.1.paid; script = c.1.script; storage = y })) (value_spelling c.1.storage) c.1.storage
    (storage_gives (storage_kind c.1.script) h.4.0 q (value_spelling c.1.storage) c.1.storage h.4.1 (value_gives h.4.0 c.1.storage h.4.2))))))

-- ---- the state

magic_back : (place : ℕ) (r : Spot) → magic_of place (magic, r) ≡ Ok r
magic_back place r = refl

profile_gives : (b : Bool) → Gives (λ r. profile_of r.place r.left) (profile b) b
profile_gives false place rest = (place + 1, refl)
profile_gives true place rest = (place + 1, refl)

prices_give : (s : State) → IsSpelt s → Gives (parts_at price_at (length kinds_by_name)) (flat_map price_spelling s.prices) s.prices
prices_give s h =
    subst (λ (n : ℕ). Gives (parts_at price_at n) (flat_map price_spelling s.prices) s.prices) h.prices.0
    (parts_give price_at price_spelling IsSpeltPrice price_gives s.prices h.prices.1)

from_tickets : (s : State) → IsSpelt s → Gives {A = State} (λ r. counted_at total_at r >>= λ v13. Ok (record { chain = s.chain; level = s.level; moment = s.moment; pays = s.pays; rate = s.rate; groups = s.groups; costs_stood = s.costs_stood; started = s.started; prices = s.prices; fees = s.fees; storage_burn = s.storage_burn; accounts = s.accounts; contracts = s.contracts; tickets = v13.0 }, v13.1)) (counted total_spelling s.tickets) s
from_tickets s h = last_gives (counted_at total_at) (λ t. record { chain = s.chain; level = s.level; moment = s.moment; pays = s.pays; rate = s.rate; groups = s.groups; costs_stood = s.costs_stood; started = s.started; prices = s.prices; fees = s.fees; storage_burn = s.storage_burn; accounts = s.accounts; contracts = s.contracts; tickets = t }) (counted total_spelling s.tickets) s.tickets (counted_gives total_at total_spelling IsSpeltTotal total_gives s.tickets h.tickets.0 h.tickets.1)

from_contracts : (s : State) → IsSpelt s → Gives {A = State} (λ r. counted_at contract_at r >>= λ v12. counted_at total_at v12.1 >>= λ v13. Ok (record { chain = s.chain; level = s.level; moment = s.moment; pays = s.pays; rate = s.rate; groups = s.groups; costs_stood = s.costs_stood; started = s.started; prices = s.prices; fees = s.fees; storage_burn = s.storage_burn; accounts = s.accounts; contracts = v12.0; tickets = v13.0 }, v13.1)) ((counted contract_spelling s.contracts) ++ (counted total_spelling s.tickets)) s
from_contracts s h = then_gives (counted_at contract_at) (λ v12. counted_at total_at v12.1 >>= λ v13. Ok (record { chain = s.chain; level = s.level; moment = s.moment; pays = s.pays; rate = s.rate; groups = s.groups; costs_stood = s.costs_stood; started = s.started; prices = s.prices; fees = s.fees; storage_burn = s.storage_burn; accounts = s.accounts; contracts = v12.0; tickets = v13.0 }, v13.1)) (counted contract_spelling s.contracts) (counted total_spelling s.tickets) s.contracts s (counted_gives contract_at contract_spelling IsSpeltContract contract_gives s.contracts h.contracts.0 h.contracts.1) (from_tickets s h)

from_accounts : (s : State) → IsSpelt s → Gives {A = State} (λ r. counted_at account_at r >>= λ v11. counted_at contract_at v11.1 >>= λ v12. counted_at total_at v12.1 >>= λ v13. Ok (record { chain = s.chain; level = s.level; moment = s.moment; pays = s.pays; rate = s.rate; groups = s.groups; costs_stood = s.costs_stood; started = s.started; prices = s.prices; fees = s.fees; storage_burn = s.storage_burn; accounts = v11.0; contracts = v12.0; tickets = v13.0 }, v13.1)) ((counted account_spelling s.accounts) ++ ((counted contract_spelling s.contracts) ++ (counted total_spelling s.tickets))) s
from_accounts s h = then_gives (counted_at account_at) (λ v11. counted_at contract_at v11.1 >>= λ v12. counted_at total_at v12.1 >>= λ v13. Ok (record { chain = s.chain; level = s.level; moment = s.moment; pays = s.pays; rate = s.rate; groups = s.groups; costs_stood = s.costs_stood; started = s.started; prices = s.prices; fees = s.fees; storage_burn = s.storage_burn; accounts = v11.0; contracts = v12.0; tickets = v13.0 }, v13.1)) (counted account_spelling s.accounts) ((counted contract_spelling s.contracts) ++ (counted total_spelling s.tickets)) s.accounts s (counted_gives account_at account_spelling IsSpeltAccount account_gives s.accounts h.accounts.0 h.accounts.1) (from_contracts s h)

from_storage_burn : (s : State) → IsSpelt s → Gives {A = State} (λ r. number_at w64 r >>= λ v10. counted_at account_at v10.1 >>= λ v11. counted_at contract_at v11.1 >>= λ v12. counted_at total_at v12.1 >>= λ v13. Ok (record { chain = s.chain; level = s.level; moment = s.moment; pays = s.pays; rate = s.rate; groups = s.groups; costs_stood = s.costs_stood; started = s.started; prices = s.prices; fees = s.fees; storage_burn = v10.0; accounts = v11.0; contracts = v12.0; tickets = v13.0 }, v13.1)) ((eight s.storage_burn) ++ ((counted account_spelling s.accounts) ++ ((counted contract_spelling s.contracts) ++ (counted total_spelling s.tickets)))) s
from_storage_burn s h = then_gives (number_at w64) (λ v10. counted_at account_at v10.1 >>= λ v11. counted_at contract_at v11.1 >>= λ v12. counted_at total_at v12.1 >>= λ v13. Ok (record { chain = s.chain; level = s.level; moment = s.moment; pays = s.pays; rate = s.rate; groups = s.groups; costs_stood = s.costs_stood; started = s.started; prices = s.prices; fees = s.fees; storage_burn = v10.0; accounts = v11.0; contracts = v12.0; tickets = v13.0 }, v13.1)) (eight s.storage_burn) ((counted account_spelling s.accounts) ++ ((counted contract_spelling s.contracts) ++ (counted total_spelling s.tickets))) s.storage_burn s (eight_gives s.storage_burn h.storage_burn) (from_accounts s h)

from_fees : (s : State) → IsSpelt s → Gives {A = State} (λ r. number_at w64 r >>= λ v9. number_at w64 v9.1 >>= λ v10. counted_at account_at v10.1 >>= λ v11. counted_at contract_at v11.1 >>= λ v12. counted_at total_at v12.1 >>= λ v13. Ok (record { chain = s.chain; level = s.level; moment = s.moment; pays = s.pays; rate = s.rate; groups = s.groups; costs_stood = s.costs_stood; started = s.started; prices = s.prices; fees = v9.0; storage_burn = v10.0; accounts = v11.0; contracts = v12.0; tickets = v13.0 }, v13.1)) ((eight s.fees) ++ ((eight s.storage_burn) ++ ((counted account_spelling s.accounts) ++ ((counted contract_spelling s.contracts) ++ (counted total_spelling s.tickets))))) s
from_fees s h = then_gives (number_at w64) (λ v9. number_at w64 v9.1 >>= λ v10. counted_at account_at v10.1 >>= λ v11. counted_at contract_at v11.1 >>= λ v12. counted_at total_at v12.1 >>= λ v13. Ok (record { chain = s.chain; level = s.level; moment = s.moment; pays = s.pays; rate = s.rate; groups = s.groups; costs_stood = s.costs_stood; started = s.started; prices = s.prices; fees = v9.0; storage_burn = v10.0; accounts = v11.0; contracts = v12.0; tickets = v13.0 }, v13.1)) (eight s.fees) ((eight s.storage_burn) ++ ((counted account_spelling s.accounts) ++ ((counted contract_spelling s.contracts) ++ (counted total_spelling s.tickets)))) s.fees s (eight_gives s.fees h.fees) (from_storage_burn s h)

from_prices : (s : State) → IsSpelt s → Gives {A = State} (λ r. parts_at price_at (length kinds_by_name) r >>= λ v8. number_at w64 v8.1 >>= λ v9. number_at w64 v9.1 >>= λ v10. counted_at account_at v10.1 >>= λ v11. counted_at contract_at v11.1 >>= λ v12. counted_at total_at v12.1 >>= λ v13. Ok (record { chain = s.chain; level = s.level; moment = s.moment; pays = s.pays; rate = s.rate; groups = s.groups; costs_stood = s.costs_stood; started = s.started; prices = v8.0; fees = v9.0; storage_burn = v10.0; accounts = v11.0; contracts = v12.0; tickets = v13.0 }, v13.1)) ((flat_map price_spelling s.prices) ++ ((eight s.fees) ++ ((eight s.storage_burn) ++ ((counted account_spelling s.accounts) ++ ((counted contract_spelling s.contracts) ++ (counted total_spelling s.tickets)))))) s
from_prices s h = then_gives (parts_at price_at (length kinds_by_name)) (λ v8. number_at w64 v8.1 >>= λ v9. number_at w64 v9.1 >>= λ v10. counted_at account_at v10.1 >>= λ v11. counted_at contract_at v11.1 >>= λ v12. counted_at total_at v12.1 >>= λ v13. Ok (record { chain = s.chain; level = s.level; moment = s.moment; pays = s.pays; rate = s.rate; groups = s.groups; costs_stood = s.costs_stood; started = s.started; prices = v8.0; fees = v9.0; storage_burn = v10.0; accounts = v11.0; contracts = v12.0; tickets = v13.0 }, v13.1)) (flat_map price_spelling s.prices) ((eight s.fees) ++ ((eight s.storage_burn) ++ ((counted account_spelling s.accounts) ++ ((counted contract_spelling s.contracts) ++ (counted total_spelling s.tickets))))) s.prices s (prices_give s h) (from_fees s h)

from_started : (s : State) → IsSpelt s → Gives {A = State} (λ r. mark_at r >>= λ v7. parts_at price_at (length kinds_by_name) v7.1 >>= λ v8. number_at w64 v8.1 >>= λ v9. number_at w64 v9.1 >>= λ v10. counted_at account_at v10.1 >>= λ v11. counted_at contract_at v11.1 >>= λ v12. counted_at total_at v12.1 >>= λ v13. Ok (record { chain = s.chain; level = s.level; moment = s.moment; pays = s.pays; rate = s.rate; groups = s.groups; costs_stood = s.costs_stood; started = v7.0; prices = v8.0; fees = v9.0; storage_burn = v10.0; accounts = v11.0; contracts = v12.0; tickets = v13.0 }, v13.1)) ((mark s.started) ++ ((flat_map price_spelling s.prices) ++ ((eight s.fees) ++ ((eight s.storage_burn) ++ ((counted account_spelling s.accounts) ++ ((counted contract_spelling s.contracts) ++ (counted total_spelling s.tickets))))))) s
from_started s h = then_gives (mark_at) (λ v7. parts_at price_at (length kinds_by_name) v7.1 >>= λ v8. number_at w64 v8.1 >>= λ v9. number_at w64 v9.1 >>= λ v10. counted_at account_at v10.1 >>= λ v11. counted_at contract_at v11.1 >>= λ v12. counted_at total_at v12.1 >>= λ v13. Ok (record { chain = s.chain; level = s.level; moment = s.moment; pays = s.pays; rate = s.rate; groups = s.groups; costs_stood = s.costs_stood; started = v7.0; prices = v8.0; fees = v9.0; storage_burn = v10.0; accounts = v11.0; contracts = v12.0; tickets = v13.0 }, v13.1)) (mark s.started) ((flat_map price_spelling s.prices) ++ ((eight s.fees) ++ ((eight s.storage_burn) ++ ((counted account_spelling s.accounts) ++ ((counted contract_spelling s.contracts) ++ (counted total_spelling s.tickets)))))) s.started s (mark_gives s.started) (from_prices s h)

from_costs_stood : (s : State) → IsSpelt s → Gives {A = State} (λ r. mark_at r >>= λ v6. mark_at v6.1 >>= λ v7. parts_at price_at (length kinds_by_name) v7.1 >>= λ v8. number_at w64 v8.1 >>= λ v9. number_at w64 v9.1 >>= λ v10. counted_at account_at v10.1 >>= λ v11. counted_at contract_at v11.1 >>= λ v12. counted_at total_at v12.1 >>= λ v13. Ok (record { chain = s.chain; level = s.level; moment = s.moment; pays = s.pays; rate = s.rate; groups = s.groups; costs_stood = v6.0; started = v7.0; prices = v8.0; fees = v9.0; storage_burn = v10.0; accounts = v11.0; contracts = v12.0; tickets = v13.0 }, v13.1)) ((mark s.costs_stood) ++ ((mark s.started) ++ ((flat_map price_spelling s.prices) ++ ((eight s.fees) ++ ((eight s.storage_burn) ++ ((counted account_spelling s.accounts) ++ ((counted contract_spelling s.contracts) ++ (counted total_spelling s.tickets)))))))) s
from_costs_stood s h = then_gives (mark_at) (λ v6. mark_at v6.1 >>= λ v7. parts_at price_at (length kinds_by_name) v7.1 >>= λ v8. number_at w64 v8.1 >>= λ v9. number_at w64 v9.1 >>= λ v10. counted_at account_at v10.1 >>= λ v11. counted_at contract_at v11.1 >>= λ v12. counted_at total_at v12.1 >>= λ v13. Ok (record { chain = s.chain; level = s.level; moment = s.moment; pays = s.pays; rate = s.rate; groups = s.groups; costs_stood = v6.0; started = v7.0; prices = v8.0; fees = v9.0; storage_burn = v10.0; accounts = v11.0; contracts = v12.0; tickets = v13.0 }, v13.1)) (mark s.costs_stood) ((mark s.started) ++ ((flat_map price_spelling s.prices) ++ ((eight s.fees) ++ ((eight s.storage_burn) ++ ((counted account_spelling s.accounts) ++ ((counted contract_spelling s.contracts) ++ (counted total_spelling s.tickets))))))) s.costs_stood s (mark_gives s.costs_stood) (from_started s h)

from_groups : (s : State) → IsSpelt s → Gives {A = State} (λ r. number_at w64 r >>= λ v5. mark_at v5.1 >>= λ v6. mark_at v6.1 >>= λ v7. parts_at price_at (length kinds_by_name) v7.1 >>= λ v8. number_at w64 v8.1 >>= λ v9. number_at w64 v9.1 >>= λ v10. counted_at account_at v10.1 >>= λ v11. counted_at contract_at v11.1 >>= λ v12. counted_at total_at v12.1 >>= λ v13. Ok (record { chain = s.chain; level = s.level; moment = s.moment; pays = s.pays; rate = s.rate; groups = v5.0; costs_stood = v6.0; started = v7.0; prices = v8.0; fees = v9.0; storage_burn = v10.0; accounts = v11.0; contracts = v12.0; tickets = v13.0 }, v13.1)) ((eight s.groups) ++ ((mark s.costs_stood) ++ ((mark s.started) ++ ((flat_map price_spelling s.prices) ++ ((eight s.fees) ++ ((eight s.storage_burn) ++ ((counted account_spelling s.accounts) ++ ((counted contract_spelling s.contracts) ++ (counted total_spelling s.tickets))))))))) s
from_groups s h = then_gives (number_at w64) (λ v5. mark_at v5.1 >>= λ v6. mark_at v6.1 >>= λ v7. parts_at price_at (length kinds_by_name) v7.1 >>= λ v8. number_at w64 v8.1 >>= λ v9. number_at w64 v9.1 >>= λ v10. counted_at account_at v10.1 >>= λ v11. counted_at contract_at v11.1 >>= λ v12. counted_at total_at v12.1 >>= λ v13. Ok (record { chain = s.chain; level = s.level; moment = s.moment; pays = s.pays; rate = s.rate; groups = v5.0; costs_stood = v6.0; started = v7.0; prices = v8.0; fees = v9.0; storage_burn = v10.0; accounts = v11.0; contracts = v12.0; tickets = v13.0 }, v13.1)) (eight s.groups) ((mark s.costs_stood) ++ ((mark s.started) ++ ((flat_map price_spelling s.prices) ++ ((eight s.fees) ++ ((eight s.storage_burn) ++ ((counted account_spelling s.accounts) ++ ((counted contract_spelling s.contracts) ++ (counted total_spelling s.tickets)))))))) s.groups s (eight_gives s.groups h.groups) (from_costs_stood s h)

from_rate : (s : State) → IsSpelt s → Gives {A = State} (λ r. number_at w64 r >>= λ v4. number_at w64 v4.1 >>= λ v5. mark_at v5.1 >>= λ v6. mark_at v6.1 >>= λ v7. parts_at price_at (length kinds_by_name) v7.1 >>= λ v8. number_at w64 v8.1 >>= λ v9. number_at w64 v9.1 >>= λ v10. counted_at account_at v10.1 >>= λ v11. counted_at contract_at v11.1 >>= λ v12. counted_at total_at v12.1 >>= λ v13. Ok (record { chain = s.chain; level = s.level; moment = s.moment; pays = s.pays; rate = v4.0; groups = v5.0; costs_stood = v6.0; started = v7.0; prices = v8.0; fees = v9.0; storage_burn = v10.0; accounts = v11.0; contracts = v12.0; tickets = v13.0 }, v13.1)) ((eight s.rate) ++ ((eight s.groups) ++ ((mark s.costs_stood) ++ ((mark s.started) ++ ((flat_map price_spelling s.prices) ++ ((eight s.fees) ++ ((eight s.storage_burn) ++ ((counted account_spelling s.accounts) ++ ((counted contract_spelling s.contracts) ++ (counted total_spelling s.tickets)))))))))) s
from_rate s h = then_gives (number_at w64) (λ v4. number_at w64 v4.1 >>= λ v5. mark_at v5.1 >>= λ v6. mark_at v6.1 >>= λ v7. parts_at price_at (length kinds_by_name) v7.1 >>= λ v8. number_at w64 v8.1 >>= λ v9. number_at w64 v9.1 >>= λ v10. counted_at account_at v10.1 >>= λ v11. counted_at contract_at v11.1 >>= λ v12. counted_at total_at v12.1 >>= λ v13. Ok (record { chain = s.chain; level = s.level; moment = s.moment; pays = s.pays; rate = v4.0; groups = v5.0; costs_stood = v6.0; started = v7.0; prices = v8.0; fees = v9.0; storage_burn = v10.0; accounts = v11.0; contracts = v12.0; tickets = v13.0 }, v13.1)) (eight s.rate) ((eight s.groups) ++ ((mark s.costs_stood) ++ ((mark s.started) ++ ((flat_map price_spelling s.prices) ++ ((eight s.fees) ++ ((eight s.storage_burn) ++ ((counted account_spelling s.accounts) ++ ((counted contract_spelling s.contracts) ++ (counted total_spelling s.tickets))))))))) s.rate s (eight_gives s.rate h.rate) (from_groups s h)

from_pays : (s : State) → IsSpelt s → Gives {A = State} (λ r. profile_of r.place r.left >>= λ v3. number_at w64 v3.1 >>= λ v4. number_at w64 v4.1 >>= λ v5. mark_at v5.1 >>= λ v6. mark_at v6.1 >>= λ v7. parts_at price_at (length kinds_by_name) v7.1 >>= λ v8. number_at w64 v8.1 >>= λ v9. number_at w64 v9.1 >>= λ v10. counted_at account_at v10.1 >>= λ v11. counted_at contract_at v11.1 >>= λ v12. counted_at total_at v12.1 >>= λ v13. Ok (record { chain = s.chain; level = s.level; moment = s.moment; pays = v3.0; rate = v4.0; groups = v5.0; costs_stood = v6.0; started = v7.0; prices = v8.0; fees = v9.0; storage_burn = v10.0; accounts = v11.0; contracts = v12.0; tickets = v13.0 }, v13.1)) ((profile s.pays) ++ ((eight s.rate) ++ ((eight s.groups) ++ ((mark s.costs_stood) ++ ((mark s.started) ++ ((flat_map price_spelling s.prices) ++ ((eight s.fees) ++ ((eight s.storage_burn) ++ ((counted account_spelling s.accounts) ++ ((counted contract_spelling s.contracts) ++ (counted total_spelling s.tickets))))))))))) s
from_pays s h = then_gives ((λ r. profile_of r.place r.left)) (λ v3. number_at w64 v3.1 >>= λ v4. number_at w64 v4.1 >>= λ v5. mark_at v5.1 >>= λ v6. mark_at v6.1 >>= λ v7. parts_at price_at (length kinds_by_name) v7.1 >>= λ v8. number_at w64 v8.1 >>= λ v9. number_at w64 v9.1 >>= λ v10. counted_at account_at v10.1 >>= λ v11. counted_at contract_at v11.1 >>= λ v12. counted_at total_at v12.1 >>= λ v13. Ok (record { chain = s.chain; level = s.level; moment = s.moment; pays = v3.0; rate = v4.0; groups = v5.0; costs_stood = v6.0; started = v7.0; prices = v8.0; fees = v9.0; storage_burn = v10.0; accounts = v11.0; contracts = v12.0; tickets = v13.0 }, v13.1)) (profile s.pays) ((eight s.rate) ++ ((eight s.groups) ++ ((mark s.costs_stood) ++ ((mark s.started) ++ ((flat_map price_spelling s.prices) ++ ((eight s.fees) ++ ((eight s.storage_burn) ++ ((counted account_spelling s.accounts) ++ ((counted contract_spelling s.contracts) ++ (counted total_spelling s.tickets)))))))))) s.pays s (profile_gives s.pays) (from_rate s h)

from_moment : (s : State) → IsSpelt s → Gives {A = State} (λ r. signed_at w64 r >>= λ v2. profile_of v2.1.place v2.1.left >>= λ v3. number_at w64 v3.1 >>= λ v4. number_at w64 v4.1 >>= λ v5. mark_at v5.1 >>= λ v6. mark_at v6.1 >>= λ v7. parts_at price_at (length kinds_by_name) v7.1 >>= λ v8. number_at w64 v8.1 >>= λ v9. number_at w64 v9.1 >>= λ v10. counted_at account_at v10.1 >>= λ v11. counted_at contract_at v11.1 >>= λ v12. counted_at total_at v12.1 >>= λ v13. Ok (record { chain = s.chain; level = s.level; moment = v2.0; pays = v3.0; rate = v4.0; groups = v5.0; costs_stood = v6.0; started = v7.0; prices = v8.0; fees = v9.0; storage_burn = v10.0; accounts = v11.0; contracts = v12.0; tickets = v13.0 }, v13.1)) ((signed w64 s.moment) ++ ((profile s.pays) ++ ((eight s.rate) ++ ((eight s.groups) ++ ((mark s.costs_stood) ++ ((mark s.started) ++ ((flat_map price_spelling s.prices) ++ ((eight s.fees) ++ ((eight s.storage_burn) ++ ((counted account_spelling s.accounts) ++ ((counted contract_spelling s.contracts) ++ (counted total_spelling s.tickets)))))))))))) s
from_moment s h = then_gives (signed_at w64) (λ v2. profile_of v2.1.place v2.1.left >>= λ v3. number_at w64 v3.1 >>= λ v4. number_at w64 v4.1 >>= λ v5. mark_at v5.1 >>= λ v6. mark_at v6.1 >>= λ v7. parts_at price_at (length kinds_by_name) v7.1 >>= λ v8. number_at w64 v8.1 >>= λ v9. number_at w64 v9.1 >>= λ v10. counted_at account_at v10.1 >>= λ v11. counted_at contract_at v11.1 >>= λ v12. counted_at total_at v12.1 >>= λ v13. Ok (record { chain = s.chain; level = s.level; moment = v2.0; pays = v3.0; rate = v4.0; groups = v5.0; costs_stood = v6.0; started = v7.0; prices = v8.0; fees = v9.0; storage_burn = v10.0; accounts = v11.0; contracts = v12.0; tickets = v13.0 }, v13.1)) (signed w64 s.moment) ((profile s.pays) ++ ((eight s.rate) ++ ((eight s.groups) ++ ((mark s.costs_stood) ++ ((mark s.started) ++ ((flat_map price_spelling s.prices) ++ ((eight s.fees) ++ ((eight s.storage_burn) ++ ((counted account_spelling s.accounts) ++ ((counted contract_spelling s.contracts) ++ (counted total_spelling s.tickets))))))))))) s.moment s (moment_gives s.moment h.moment) (from_pays s h)

from_level : (s : State) → IsSpelt s → Gives {A = State} (λ r. number_at w32 r >>= λ v1. signed_at w64 v1.1 >>= λ v2. profile_of v2.1.place v2.1.left >>= λ v3. number_at w64 v3.1 >>= λ v4. number_at w64 v4.1 >>= λ v5. mark_at v5.1 >>= λ v6. mark_at v6.1 >>= λ v7. parts_at price_at (length kinds_by_name) v7.1 >>= λ v8. number_at w64 v8.1 >>= λ v9. number_at w64 v9.1 >>= λ v10. counted_at account_at v10.1 >>= λ v11. counted_at contract_at v11.1 >>= λ v12. counted_at total_at v12.1 >>= λ v13. Ok (record { chain = s.chain; level = v1.0; moment = v2.0; pays = v3.0; rate = v4.0; groups = v5.0; costs_stood = v6.0; started = v7.0; prices = v8.0; fees = v9.0; storage_burn = v10.0; accounts = v11.0; contracts = v12.0; tickets = v13.0 }, v13.1)) ((four s.level) ++ ((signed w64 s.moment) ++ ((profile s.pays) ++ ((eight s.rate) ++ ((eight s.groups) ++ ((mark s.costs_stood) ++ ((mark s.started) ++ ((flat_map price_spelling s.prices) ++ ((eight s.fees) ++ ((eight s.storage_burn) ++ ((counted account_spelling s.accounts) ++ ((counted contract_spelling s.contracts) ++ (counted total_spelling s.tickets))))))))))))) s
from_level s h = then_gives (number_at w32) (λ v1. signed_at w64 v1.1 >>= λ v2. profile_of v2.1.place v2.1.left >>= λ v3. number_at w64 v3.1 >>= λ v4. number_at w64 v4.1 >>= λ v5. mark_at v5.1 >>= λ v6. mark_at v6.1 >>= λ v7. parts_at price_at (length kinds_by_name) v7.1 >>= λ v8. number_at w64 v8.1 >>= λ v9. number_at w64 v9.1 >>= λ v10. counted_at account_at v10.1 >>= λ v11. counted_at contract_at v11.1 >>= λ v12. counted_at total_at v12.1 >>= λ v13. Ok (record { chain = s.chain; level = v1.0; moment = v2.0; pays = v3.0; rate = v4.0; groups = v5.0; costs_stood = v6.0; started = v7.0; prices = v8.0; fees = v9.0; storage_burn = v10.0; accounts = v11.0; contracts = v12.0; tickets = v13.0 }, v13.1)) (four s.level) ((signed w64 s.moment) ++ ((profile s.pays) ++ ((eight s.rate) ++ ((eight s.groups) ++ ((mark s.costs_stood) ++ ((mark s.started) ++ ((flat_map price_spelling s.prices) ++ ((eight s.fees) ++ ((eight s.storage_burn) ++ ((counted account_spelling s.accounts) ++ ((counted contract_spelling s.contracts) ++ (counted total_spelling s.tickets)))))))))))) s.level s (four_gives s.level h.level) (from_moment s h)

from_chain : (s : State) → IsSpelt s → Gives {A = State} (λ r. taken 4 r >>= λ v0. number_at w32 v0.1 >>= λ v1. signed_at w64 v1.1 >>= λ v2. profile_of v2.1.place v2.1.left >>= λ v3. number_at w64 v3.1 >>= λ v4. number_at w64 v4.1 >>= λ v5. mark_at v5.1 >>= λ v6. mark_at v6.1 >>= λ v7. parts_at price_at (length kinds_by_name) v7.1 >>= λ v8. number_at w64 v8.1 >>= λ v9. number_at w64 v9.1 >>= λ v10. counted_at account_at v10.1 >>= λ v11. counted_at contract_at v11.1 >>= λ v12. counted_at total_at v12.1 >>= λ v13. Ok (record { chain = v0.0; level = v1.0; moment = v2.0; pays = v3.0; rate = v4.0; groups = v5.0; costs_stood = v6.0; started = v7.0; prices = v8.0; fees = v9.0; storage_burn = v10.0; accounts = v11.0; contracts = v12.0; tickets = v13.0 }, v13.1)) (s.chain ++ ((four s.level) ++ ((signed w64 s.moment) ++ ((profile s.pays) ++ ((eight s.rate) ++ ((eight s.groups) ++ ((mark s.costs_stood) ++ ((mark s.started) ++ ((flat_map price_spelling s.prices) ++ ((eight s.fees) ++ ((eight s.storage_burn) ++ ((counted account_spelling s.accounts) ++ ((counted contract_spelling s.contracts) ++ (counted total_spelling s.tickets)))))))))))))) s
from_chain s h = then_gives (taken 4) (λ v0. number_at w32 v0.1 >>= λ v1. signed_at w64 v1.1 >>= λ v2. profile_of v2.1.place v2.1.left >>= λ v3. number_at w64 v3.1 >>= λ v4. number_at w64 v4.1 >>= λ v5. mark_at v5.1 >>= λ v6. mark_at v6.1 >>= λ v7. parts_at price_at (length kinds_by_name) v7.1 >>= λ v8. number_at w64 v8.1 >>= λ v9. number_at w64 v9.1 >>= λ v10. counted_at account_at v10.1 >>= λ v11. counted_at contract_at v11.1 >>= λ v12. counted_at total_at v12.1 >>= λ v13. Ok (record { chain = v0.0; level = v1.0; moment = v2.0; pays = v3.0; rate = v4.0; groups = v5.0; costs_stood = v6.0; started = v7.0; prices = v8.0; fees = v9.0; storage_burn = v10.0; accounts = v11.0; contracts = v12.0; tickets = v13.0 }, v13.1)) s.chain ((four s.level) ++ ((signed w64 s.moment) ++ ((profile s.pays) ++ ((eight s.rate) ++ ((eight s.groups) ++ ((mark s.costs_stood) ++ ((mark s.started) ++ ((flat_map price_spelling s.prices) ++ ((eight s.fees) ++ ((eight s.storage_burn) ++ ((counted account_spelling s.accounts) ++ ((counted contract_spelling s.contracts) ++ (counted total_spelling s.tickets))))))))))))) s.chain s (taken_as 4 s.chain h.chain) (from_level s h)

flat : (s : State) → state_spelling s ≡ (magic ++ (s.chain ++ ((four s.level) ++ ((signed w64 s.moment) ++ ((profile s.pays) ++ ((eight s.rate) ++ ((eight s.groups) ++ ((mark s.costs_stood) ++ ((mark s.started) ++ ((flat_map price_spelling s.prices) ++ ((eight s.fees) ++ ((eight s.storage_burn) ++ ((counted account_spelling s.accounts) ++ ((counted contract_spelling s.contracts) ++ (counted total_spelling s.tickets)))))))))))))))
flat s = simp append_assoc refl

abbrev behind : Reader State
behind r = taken 4 r >>= λ v0. number_at w32 v0.1 >>= λ v1. signed_at w64 v1.1 >>= λ v2. profile_of v2.1.place v2.1.left >>= λ v3. number_at w64 v3.1 >>= λ v4. number_at w64 v4.1 >>= λ v5. mark_at v5.1 >>= λ v6. mark_at v6.1 >>= λ v7. parts_at price_at (length kinds_by_name) v7.1 >>= λ v8. number_at w64 v8.1 >>= λ v9. number_at w64 v9.1 >>= λ v10. counted_at account_at v10.1 >>= λ v11. counted_at contract_at v11.1 >>= λ v12. counted_at total_at v12.1 >>= λ v13. Ok (record { chain = v0.0; level = v1.0; moment = v2.0; pays = v3.0; rate = v4.0; groups = v5.0; costs_stood = v6.0; started = v7.0; prices = v8.0; fees = v9.0; storage_burn = v10.0; accounts = v11.0; contracts = v12.0; tickets = v13.0 }, v13.1)

opened : (place : ℕ) (left : List ℕ) (after : ℕ) → taken 8 (spot place (magic ++ left)) ≡ Ok (magic, spot after left) → state_at (spot place (magic ++ left)) ≡ behind (spot after left)
unfolding state_at
opened place left after e =
    ap (λ r. r >>= λ b. magic_of place b >>= λ h. behind h) e ∙ ap (λ r. r >>= λ h. behind h) (magic_back place (spot after left))

state_gives : (s : State) → IsSpelt s → Gives state_at (state_spelling s) s
unfolding state_at
state_gives s h place rest =
    let k = from_chain s h in
    let m = taken_as 8 magic refl place ((s.chain ++ ((four s.level) ++ ((signed w64 s.moment) ++ ((profile s.pays) ++ ((eight s.rate) ++ ((eight s.groups) ++ ((mark s.costs_stood) ++ ((mark s.started) ++ ((flat_map price_spelling s.prices) ++ ((eight s.fees) ++ ((eight s.storage_burn) ++ ((counted account_spelling s.accounts) ++ ((counted contract_spelling s.contracts) ++ (counted total_spelling s.tickets)))))))))))))) ++ rest) in
    let c = k m.0 rest in (
      c.0,
      ap (λ (t : List ℕ). state_at (spot place (t ++ rest))) (flat s)
          ∙ ap (λ (t : List ℕ). state_at (spot place t)) (append_assoc magic (s.chain ++ ((four s.level) ++ ((signed w64 s.moment) ++ ((profile s.pays) ++ ((eight s.rate) ++ ((eight s.groups) ++ ((mark s.costs_stood) ++ ((mark s.started) ++ ((flat_map price_spelling s.prices) ++ ((eight s.fees) ++ ((eight s.storage_burn) ++ ((counted account_spelling s.accounts) ++ ((counted contract_spelling s.contracts) ++ (counted total_spelling s.tickets)))))))))))))) rest)
          ∙ opened place ((s.chain ++ ((four s.level) ++ ((signed w64 s.moment) ++ ((profile s.pays) ++ ((eight s.rate) ++ ((eight s.groups) ++ ((mark s.costs_stood) ++ ((mark s.started) ++ ((flat_map price_spelling s.prices) ++ ((eight s.fees) ++ ((eight s.storage_burn) ++ ((counted account_spelling s.accounts) ++ ((counted contract_spelling s.contracts) ++ (counted total_spelling s.tickets)))))))))))))) ++ rest) m.0 m.1
          ∙ c.1,
    )

whole_back : (s : State) (r : Spot) → r.left ≡ [] → whole (s, r) ≡ Ok s
whole_back s r e = rw e refl

pub spelt_are_read : (s : State) → IsSpelt s → length (state_spelling s) ≤ snapshot_limit → read (state_spelling s) ≡ Ok s
unfolding read
spelt_are_read s h l =
    let g = state_gives s h 0 [] in
    let short : nat_lt snapshot_limit (length (state_spelling s)) ≡ false = grind (arith, nat_tests, l) in
    let start : state_at (spot 0 (state_spelling s)) ≡ Ok (s, spot g.0 []) = ap (λ (t : List ℕ). state_at (spot 0 t)) (sym (append-nil (state_spelling s))) ∙ g.1 in
    ap (λ b. cond b (Err snapshot_limit) (state_at (spot 0 (state_spelling s)) >>= λ r. whole r)) short ∙ ap (λ r. r >>= λ x. whole x) start
