-- What words spell: a type with the words behind it, and a stack. A stack that is as they say is the one that they spell.
use Rattle.std.proofs.Common.{◌≡◌, Bool, true, false, ◌&&◌, cond, Option, Some, None, List, [], ◌∷◌, refl, ap, ◌∙◌, subst}
use Rattle.std.specs.Prelude.{option_and_then}
use Rattle.rules_data.specs.types.Kind.{Kind}
use Rattle.rules_data.specs.types.Kind as k
use Rattle.rules_code.specs.instructions.Types as t
use Rattle.rules_code.specs.instructions.Same.{same_kind, same_kinds}
use Rattle.laws_data.proofs.types_lemmas.ForCallers.{same_kind_true, same_kind_refl}
use Rattle.mich_cert.specs.Words.{Known, met, meet, meets, below_both}
use Rattle.mich_cert.specs.declared.words.Word.{Word}
use Rattle.mich_cert.specs.declared.words.Word.TheVariants as w

-- words that meet just this type, and leave these behind it
pub record Names (vs : List Word) (o : Known) (a : Kind) (ws : List Word) : Type 0 where
  pub same : (b : Kind) → meet vs b o ≡ cond (same_kind a b) (met ws o) None

-- words that meet just this stack above another
pub record Spells (vs : List Word) (o : Known) (A S : List Kind) : Type 0 where
  pub same : (B : List Kind) → below_both A (meets vs B o) ≡ same_kinds S B

pub spelled : (vs : List Word) (o : Known) (A S : List Kind) → Spells vs o A S → (B : List Kind) → below_both A (meets vs B o) ≡ same_kinds S B
spelled vs o A S h B = h.same B

pub nil : {o : Known} {A : List Kind} → Spells [] o A A
nil = record { same = λ B. refl }

put_same : (v : Word) (ws us : List Word) (o : Known) (a : Kind) (A S : List Kind) → Names (v ∷ ws) o a us → Spells us o A S →
    (B : List Kind) → below_both A (meets (v ∷ ws) B o) ≡ same_kinds (a ∷ S) B
put_same v ws us o a A S h g [] = refl
put_same v ws us o a A S h g (b ∷ B) = ap (λ m. below_both A (option_and_then (λ m. meets m.words B m.known) m)) (h.same b) ∙ by (same_kind a b)
  where
    by : (q : Bool) → below_both A (option_and_then (λ m. meets m.words B m.known) (cond q (met us o) None)) ≡ (q && same_kinds S B)
    by true = g.same B
    by false = refl

pub put : {v : Word} {ws us : List Word} {o : Known} {a : Kind} {A S : List Kind} → Names (v ∷ ws) o a us → Spells us o A S → Spells (v ∷ ws) o A (a ∷ S)
put {v} {ws} {us} {o} {a} {A} {S} h g = record { same = put_same v ws us o a A S h g }

-- ---- open types that are known

a_same : (ws : List Word) (x : Kind) (b c : Option Kind) (y : Kind) → meet (w.A ∷ ws) y (record { a = Some x; b = b; c = c }) ≡ cond (same_kind x y) (met ws (record { a = Some x; b = b; c = c })) None
a_same ws x b c y = by (same_kind x y) refl
  where
    by : (q : Bool) → same_kind x y ≡ q → meet (w.A ∷ ws) y (record { a = Some x; b = b; c = c }) ≡ cond (same_kind x y) (met ws (record { a = Some x; b = b; c = c })) None
    by true e = subst (λ z. meet (w.A ∷ ws) z (record { a = Some x; b = b; c = c }) ≡ cond (same_kind x z) (met ws (record { a = Some x; b = b; c = c })) None) (same_kind_true x y e) (rw (same_kind_refl x) refl)
    by false e = rw e refl

pub names_a : {ws : List Word} {x : Kind} {b c : Option Kind} → Names (w.A ∷ ws) (record { a = Some x; b = b; c = c }) x ws
names_a {ws} {x} {b} {c} = record { same = a_same ws x b c }

b_same : (ws : List Word) (x : Kind) (a c : Option Kind) (y : Kind) → meet (w.B ∷ ws) y (record { a = a; b = Some x; c = c }) ≡ cond (same_kind x y) (met ws (record { a = a; b = Some x; c = c })) None
b_same ws x a c y = by (same_kind x y) refl
  where
    by : (q : Bool) → same_kind x y ≡ q → meet (w.B ∷ ws) y (record { a = a; b = Some x; c = c }) ≡ cond (same_kind x y) (met ws (record { a = a; b = Some x; c = c })) None
    by true e = subst (λ z. meet (w.B ∷ ws) z (record { a = a; b = Some x; c = c }) ≡ cond (same_kind x z) (met ws (record { a = a; b = Some x; c = c })) None) (same_kind_true x y e) (rw (same_kind_refl x) refl)
    by false e = rw e refl

pub names_b : {ws : List Word} {x : Kind} {a c : Option Kind} → Names (w.B ∷ ws) (record { a = a; b = Some x; c = c }) x ws
names_b {ws} {x} {a} {c} = record { same = b_same ws x a c }

c_same : (ws : List Word) (x : Kind) (a b : Option Kind) (y : Kind) → meet (w.C ∷ ws) y (record { a = a; b = b; c = Some x }) ≡ cond (same_kind x y) (met ws (record { a = a; b = b; c = Some x })) None
c_same ws x a b y = by (same_kind x y) refl
  where
    by : (q : Bool) → same_kind x y ≡ q → meet (w.C ∷ ws) y (record { a = a; b = b; c = Some x }) ≡ cond (same_kind x y) (met ws (record { a = a; b = b; c = Some x })) None
    by true e = subst (λ z. meet (w.C ∷ ws) z (record { a = a; b = b; c = Some x }) ≡ cond (same_kind x z) (met ws (record { a = a; b = b; c = Some x })) None) (same_kind_true x y e) (rw (same_kind_refl x) refl)
    by false e = rw e refl

pub names_c : {ws : List Word} {x : Kind} {a b : Option Kind} → Names (w.C ∷ ws) (record { a = a; b = b; c = Some x }) x ws
names_c {ws} {x} {a} {b} = record { same = c_same ws x a b }

-- ---- types without parts

unit_same : (ws : List Word) (o : Known) (b : Kind) → meet (w.Unit ∷ ws) b o ≡ cond (same_kind t.unit b) (met ws o) None
unit_same ws o t.unit = refl
unit_same ws o b = refl

pub names_unit : {ws : List Word} {o : Known} → Names (w.Unit ∷ ws) o t.unit ws
names_unit {ws} {o} = record { same = unit_same ws o }

never_same : (ws : List Word) (o : Known) (b : Kind) → meet (w.Never ∷ ws) b o ≡ cond (same_kind t.never b) (met ws o) None
never_same ws o t.never = refl
never_same ws o b = refl

pub names_never : {ws : List Word} {o : Known} → Names (w.Never ∷ ws) o t.never ws
names_never {ws} {o} = record { same = never_same ws o }

bool_same : (ws : List Word) (o : Known) (b : Kind) → meet (w.Bool ∷ ws) b o ≡ cond (same_kind t.bool b) (met ws o) None
bool_same ws o t.bool = refl
bool_same ws o b = refl

pub names_bool : {ws : List Word} {o : Known} → Names (w.Bool ∷ ws) o t.bool ws
names_bool {ws} {o} = record { same = bool_same ws o }

int_same : (ws : List Word) (o : Known) (b : Kind) → meet (w.Int ∷ ws) b o ≡ cond (same_kind t.int b) (met ws o) None
int_same ws o t.int = refl
int_same ws o b = refl

pub names_int : {ws : List Word} {o : Known} → Names (w.Int ∷ ws) o t.int ws
names_int {ws} {o} = record { same = int_same ws o }

nat_same : (ws : List Word) (o : Known) (b : Kind) → meet (w.Nat ∷ ws) b o ≡ cond (same_kind t.nat b) (met ws o) None
nat_same ws o t.nat = refl
nat_same ws o b = refl

pub names_nat : {ws : List Word} {o : Known} → Names (w.Nat ∷ ws) o t.nat ws
names_nat {ws} {o} = record { same = nat_same ws o }

string_same : (ws : List Word) (o : Known) (b : Kind) → meet (w.String ∷ ws) b o ≡ cond (same_kind t.string b) (met ws o) None
string_same ws o t.string = refl
string_same ws o b = refl

pub names_string : {ws : List Word} {o : Known} → Names (w.String ∷ ws) o t.string ws
names_string {ws} {o} = record { same = string_same ws o }

bytes_same : (ws : List Word) (o : Known) (b : Kind) → meet (w.Bytes ∷ ws) b o ≡ cond (same_kind t.bytes b) (met ws o) None
bytes_same ws o t.bytes = refl
bytes_same ws o b = refl

pub names_bytes : {ws : List Word} {o : Known} → Names (w.Bytes ∷ ws) o t.bytes ws
names_bytes {ws} {o} = record { same = bytes_same ws o }

mutez_same : (ws : List Word) (o : Known) (b : Kind) → meet (w.Mutez ∷ ws) b o ≡ cond (same_kind t.mutez b) (met ws o) None
mutez_same ws o t.mutez = refl
mutez_same ws o b = refl

pub names_mutez : {ws : List Word} {o : Known} → Names (w.Mutez ∷ ws) o t.mutez ws
names_mutez {ws} {o} = record { same = mutez_same ws o }

timestamp_same : (ws : List Word) (o : Known) (b : Kind) → meet (w.Timestamp ∷ ws) b o ≡ cond (same_kind t.timestamp b) (met ws o) None
timestamp_same ws o t.timestamp = refl
timestamp_same ws o b = refl

pub names_timestamp : {ws : List Word} {o : Known} → Names (w.Timestamp ∷ ws) o t.timestamp ws
names_timestamp {ws} {o} = record { same = timestamp_same ws o }

key_same : (ws : List Word) (o : Known) (b : Kind) → meet (w.Key ∷ ws) b o ≡ cond (same_kind t.key b) (met ws o) None
key_same ws o t.key = refl
key_same ws o b = refl

pub names_key : {ws : List Word} {o : Known} → Names (w.Key ∷ ws) o t.key ws
names_key {ws} {o} = record { same = key_same ws o }

key_hash_same : (ws : List Word) (o : Known) (b : Kind) → meet (w.KeyHash ∷ ws) b o ≡ cond (same_kind t.key_hash b) (met ws o) None
key_hash_same ws o t.key_hash = refl
key_hash_same ws o b = refl

pub names_key_hash : {ws : List Word} {o : Known} → Names (w.KeyHash ∷ ws) o t.key_hash ws
names_key_hash {ws} {o} = record { same = key_hash_same ws o }

chain_id_same : (ws : List Word) (o : Known) (b : Kind) → meet (w.ChainId ∷ ws) b o ≡ cond (same_kind t.chain_id b) (met ws o) None
chain_id_same ws o t.chain_id = refl
chain_id_same ws o b = refl

pub names_chain_id : {ws : List Word} {o : Known} → Names (w.ChainId ∷ ws) o t.chain_id ws
names_chain_id {ws} {o} = record { same = chain_id_same ws o }

address_same : (ws : List Word) (o : Known) (b : Kind) → meet (w.Address ∷ ws) b o ≡ cond (same_kind t.address b) (met ws o) None
address_same ws o t.address = refl
address_same ws o b = refl

pub names_address : {ws : List Word} {o : Known} → Names (w.Address ∷ ws) o t.address ws
names_address {ws} {o} = record { same = address_same ws o }

operation_same : (ws : List Word) (o : Known) (b : Kind) → meet (w.Operation ∷ ws) b o ≡ cond (same_kind k.operation b) (met ws o) None
operation_same ws o k.operation = refl
operation_same ws o b = refl

pub names_operation : {ws : List Word} {o : Known} → Names (w.Operation ∷ ws) o k.operation ws
names_operation {ws} {o} = record { same = operation_same ws o }

-- ---- types of one part

option_same : (vs ws : List Word) (o : Known) (a : Kind) → Names vs o a ws → (b : Kind) → meet (w.Option ∷ vs) b o ≡ cond (same_kind (k.option a) b) (met ws o) None
option_same vs ws o a h (k.option b) = h.same b
option_same vs ws o a h b = refl

pub names_option : {vs ws : List Word} {o : Known} {a : Kind} → Names vs o a ws → Names (w.Option ∷ vs) o (k.option a) ws
names_option {vs} {ws} {o} {a} h = record { same = option_same vs ws o a h }

list_same : (vs ws : List Word) (o : Known) (a : Kind) → Names vs o a ws → (b : Kind) → meet (w.List ∷ vs) b o ≡ cond (same_kind (k.list a) b) (met ws o) None
list_same vs ws o a h (k.list b) = h.same b
list_same vs ws o a h b = refl

pub names_list : {vs ws : List Word} {o : Known} {a : Kind} → Names vs o a ws → Names (w.List ∷ vs) o (k.list a) ws
names_list {vs} {ws} {o} {a} h = record { same = list_same vs ws o a h }

set_same : (vs ws : List Word) (o : Known) (a : Kind) → Names vs o a ws → (b : Kind) → meet (w.Set ∷ vs) b o ≡ cond (same_kind (k.set a) b) (met ws o) None
set_same vs ws o a h (k.set b) = h.same b
set_same vs ws o a h b = refl

pub names_set : {vs ws : List Word} {o : Known} {a : Kind} → Names vs o a ws → Names (w.Set ∷ vs) o (k.set a) ws
names_set {vs} {ws} {o} {a} h = record { same = set_same vs ws o a h }

contract_same : (vs ws : List Word) (o : Known) (a : Kind) → Names vs o a ws → (b : Kind) → meet (w.Contract ∷ vs) b o ≡ cond (same_kind (k.contract a) b) (met ws o) None
contract_same vs ws o a h (k.contract b) = h.same b
contract_same vs ws o a h b = refl

pub names_contract : {vs ws : List Word} {o : Known} {a : Kind} → Names vs o a ws → Names (w.Contract ∷ vs) o (k.contract a) ws
names_contract {vs} {ws} {o} {a} h = record { same = contract_same vs ws o a h }

ticket_same : (vs ws : List Word) (o : Known) (a : Kind) → Names vs o a ws → (b : Kind) → meet (w.Ticket ∷ vs) b o ≡ cond (same_kind (k.ticket a) b) (met ws o) None
ticket_same vs ws o a h (k.ticket b) = h.same b
ticket_same vs ws o a h b = refl

pub names_ticket : {vs ws : List Word} {o : Known} {a : Kind} → Names vs o a ws → Names (w.Ticket ∷ vs) o (k.ticket a) ws
names_ticket {vs} {ws} {o} {a} h = record { same = ticket_same vs ws o a h }

-- ---- types of two parts

second_same : (us ws : List Word) (o : Known) (b d : Kind) → Names us o b ws → (q : Bool) →
    option_and_then (λ m. meet m.words d m.known) (cond q (met us o) None) ≡ cond (q && same_kind b d) (met ws o) None
second_same us ws o b d h true = h.same d
second_same us ws o b d h false = refl

both_same : (vs us ws : List Word) (o : Known) (a b c d : Kind) → Names vs o a us → Names us o b ws →
    option_and_then (λ m. meet m.words d m.known) (meet vs c o) ≡ cond (same_kind a c && same_kind b d) (met ws o) None
both_same vs us ws o a b c d h g = ap (λ m. option_and_then (λ m. meet m.words d m.known) m) (h.same c) ∙ second_same us ws o b d g (same_kind a c)

or_same : (vs us ws : List Word) (o : Known) (a b : Kind) → Names vs o a us → Names us o b ws →
    (e : Kind) → meet (w.Or ∷ vs) e o ≡ cond (same_kind (k.or a b) e) (met ws o) None
or_same vs us ws o a b h g (k.or c d) = both_same vs us ws o a b c d h g
or_same vs us ws o a b h g e = refl

pub names_or : {vs us ws : List Word} {o : Known} {a b : Kind} → Names vs o a us → Names us o b ws → Names (w.Or ∷ vs) o (k.or a b) ws
names_or {vs} {us} {ws} {o} {a} {b} h g = record { same = or_same vs us ws o a b h g }

pair_same : (vs us ws : List Word) (o : Known) (a b : Kind) → Names vs o a us → Names us o b ws →
    (e : Kind) → meet (w.Pair ∷ vs) e o ≡ cond (same_kind (k.pair a b) e) (met ws o) None
pair_same vs us ws o a b h g (k.pair c d) = both_same vs us ws o a b c d h g
pair_same vs us ws o a b h g e = refl

pub names_pair : {vs us ws : List Word} {o : Known} {a b : Kind} → Names vs o a us → Names us o b ws → Names (w.Pair ∷ vs) o (k.pair a b) ws
names_pair {vs} {us} {ws} {o} {a} {b} h g = record { same = pair_same vs us ws o a b h g }

map_same : (vs us ws : List Word) (o : Known) (a b : Kind) → Names vs o a us → Names us o b ws →
    (e : Kind) → meet (w.Map ∷ vs) e o ≡ cond (same_kind (k.map a b) e) (met ws o) None
map_same vs us ws o a b h g (k.map c d) = both_same vs us ws o a b c d h g
map_same vs us ws o a b h g e = refl

pub names_map : {vs us ws : List Word} {o : Known} {a b : Kind} → Names vs o a us → Names us o b ws → Names (w.Map ∷ vs) o (k.map a b) ws
names_map {vs} {us} {ws} {o} {a} {b} h g = record { same = map_same vs us ws o a b h g }

big_map_same : (vs us ws : List Word) (o : Known) (a b : Kind) → Names vs o a us → Names us o b ws →
    (e : Kind) → meet (w.BigMap ∷ vs) e o ≡ cond (same_kind (k.big_map a b) e) (met ws o) None
big_map_same vs us ws o a b h g (k.big_map c d) = both_same vs us ws o a b c d h g
big_map_same vs us ws o a b h g e = refl

pub names_big_map : {vs us ws : List Word} {o : Known} {a b : Kind} → Names vs o a us → Names us o b ws → Names (w.BigMap ∷ vs) o (k.big_map a b) ws
names_big_map {vs} {us} {ws} {o} {a} {b} h g = record { same = big_map_same vs us ws o a b h g }

lambda_same : (vs us ws : List Word) (o : Known) (a b : Kind) → Names vs o a us → Names us o b ws →
    (e : Kind) → meet (w.Lambda ∷ vs) e o ≡ cond (same_kind (k.lambda a b) e) (met ws o) None
lambda_same vs us ws o a b h g (k.lambda c d) = both_same vs us ws o a b c d h g
lambda_same vs us ws o a b h g e = refl

pub names_lambda : {vs us ws : List Word} {o : Known} {a b : Kind} → Names vs o a us → Names us o b ws → Names (w.Lambda ∷ vs) o (k.lambda a b) ws
names_lambda {vs} {us} {ws} {o} {a} {b} h g = record { same = lambda_same vs us ws o a b h g }
