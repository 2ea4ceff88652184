-- Types that are read, and read again.
use Rattle.std.proofs.Common.{◌≡◌, ℕ, ◌+◌, Bool, true, false, cond, List, [], ◌∷◌, codes, refl, ap, ◌∙◌, subst, nat_le}
use Rattle.std.proofs.lemmas.Bool.{leb-true, le-leb}
use Rattle.rules_text.specs.nodes.Limits.{type_limit}
use Rattle.rules_text.specs.nodes.Tree.{Tree, int, str, bytes, prim, seq, Trees, none, more, size}
use Rattle.rules_text.specs.nodes.Primitives.{primitive_of_name, code_of_name, primitive_of_code, primitive_names, primitives}
use Rattle.rules_data.specs.declared.types.Simple.{Simple}
use Rattle.rules_data.specs.declared.types.Simple.TheVariants as s
use Rattle.rules_data.specs.declared.types.OneArgument.{OneArgument}
use Rattle.rules_data.specs.declared.types.OneArgument.TheVariants as one
use Rattle.rules_data.specs.declared.types.TwoArguments.{TwoArguments}
use Rattle.rules_data.specs.declared.types.TwoArguments.TheVariants as two
use Rattle.rules_data.specs.types.Kind.{Kind, nodes}
use Rattle.rules_data.specs.types.Kind as k
use Rattle.rules_data.specs.types.Reading.{Former, simple_type, operation_type, one_argument, two_arguments, pair_type, no_type, former_of_name, asked_of_argument, of_argument, asked_of_first, asked_of_second, of_arguments, Read, good, bad, Part, part, with_part, on_good, paired, applied, typed, parts, limited, a_type, too_large}
use Rattle.rules_data.specs.types.Printing.{simple_name, named, node_of}
use Rattle.laws_data.specs.types.Laws.{IsWellFormed, AreRead, WellFormed}

good_same : (a b : Kind) → good a ≡ good b → a ≡ b
good_same a b e = cc

asked_good : (b : Bool) (r : Read) (l : ℕ) (c : Kind) → cond b r (bad l) ≡ good c → (b ≡ true) × (r ≡ good c)
asked_good true r l c e = (refl, e)
asked_good false r l c e = absurd cc

record Taken (asked : Kind → Bool) (r : Read) (next : Kind → Read) (c : Kind) : Type 0 where
  kind : Kind
  read : r ≡ good kind
  has : asked kind ≡ true
  goes : next kind ≡ good c

taken : (asked : Kind → Bool) (l : ℕ) (r : Read) (next : Kind → Read) (c : Kind) → with_part asked (part l r) next ≡ good c → Taken asked r next c
taken asked l (good a) next c e =
    let h = asked_good (asked a) (next a) l c e in
    record { kind = a; read = refl; has = h.0; goes = h.1 }
taken asked l (bad m) next c e = absurd cc

on_pair : (a : Kind) (r : Read) (c : Kind) → on_good (k.pair a) r ≡ good c → (d : Kind) × (r ≡ good d) × (k.pair a d ≡ c)
on_pair a (good d) c e = (d, refl, good_same (k.pair a d) c e)
on_pair a (bad l) c e = absurd cc

abbrev AllWell : List Part → Type 0
AllWell [] = Unit {0}
AllWell (part l r ∷ qs) = ((a : Kind) → r ≡ good a → IsWellFormed a) × AllWell qs

one_well : (f : OneArgument) (a : Kind) → asked_of_argument f a ≡ true → IsWellFormed a → IsWellFormed (of_argument f a)
one_well one.Option a e h = h
one_well one.List a e h = h
one_well one.Set a e h = (e, h)
one_well one.Contract a e h = (e, h)
one_well one.Ticket a e h = (e, h)

two_well : (f : TwoArguments) (a b : Kind) → asked_of_first f a ≡ true → asked_of_second f b ≡ true → IsWellFormed a → IsWellFormed b → IsWellFormed (of_arguments f a b)
two_well two.Or a b d e h i = (h, i)
two_well two.Map a b d e h i = (d, h, i)
two_well two.BigMap a b d e h i = (d, e, h, i)
two_well two.Lambda a b d e h i = (h, i)

paired_well : (l : ℕ) (r : Read) (qs : List Part) (c : Kind) → AllWell (part l r ∷ qs) → paired (part l r) qs ≡ good c → IsWellFormed c
paired_well l (bad m) [] c h e = absurd cc
paired_well l (bad m) (q ∷ qs) c h e = absurd cc
paired_well l (good a) [] c h e = h.0 c e
paired_well l (good a) (part m r ∷ qs) c h e =
    let f = on_pair a (paired (part m r) qs) c e in
    subst IsWellFormed f.2 (h.0 a refl, paired_well m r qs f.0 h.1 f.1)

applied_well : (f : Former) (at : ℕ) (qs : List Part) (c : Kind) → AllWell qs → applied f at qs ≡ good c → IsWellFormed c
applied_well (simple_type v) at [] c h e = subst IsWellFormed (good_same (k.simple v) c e) tt
applied_well (simple_type v) at (q ∷ qs) c h e = absurd cc
applied_well operation_type at [] c h e = subst IsWellFormed (good_same k.operation c e) tt
applied_well operation_type at (q ∷ qs) c h e = absurd cc
applied_well (one_argument f) at [] c h e = absurd cc
applied_well (one_argument f) at (part l r ∷ []) c h e =
    let g = taken (asked_of_argument f) l r (λ a. good (of_argument f a)) c e in
    subst IsWellFormed (good_same (of_argument f g.kind) c g.goes) (one_well f g.kind g.has (h.0 g.kind g.read))
applied_well (one_argument f) at (q ∷ r ∷ rs) c h e = absurd cc
applied_well (two_arguments f) at [] c h e = absurd cc
applied_well (two_arguments f) at (q ∷ []) c h e = absurd cc
applied_well (two_arguments f) at (part l r ∷ part m v ∷ []) c h e =
    let g = taken (asked_of_first f) l r (λ a. with_part (asked_of_second f) (part m v) (λ x. good (of_arguments f a x))) c e in
    let i = taken (asked_of_second f) m v (λ x. good (of_arguments f g.kind x)) c g.goes in
    subst IsWellFormed (good_same (of_arguments f g.kind i.kind) c i.goes)
    (two_well f g.kind i.kind g.has i.has (h.0 g.kind g.read) (h.1.0 i.kind i.read))
applied_well (two_arguments f) at (q ∷ r ∷ t ∷ ts) c h e = absurd cc
applied_well pair_type at [] c h e = absurd cc
applied_well pair_type at (q ∷ []) c h e = absurd cc
applied_well pair_type at (part l r ∷ q ∷ qs) c h e = paired_well l r (q ∷ qs) c h e
applied_well no_type at qs c h e = absurd cc

mutual
  pub read_well : (at : ℕ) (t : Tree) (a : Kind) → typed at t ≡ good a → IsWellFormed a
  read_well at (int n) a e = absurd cc
  read_well at (str v) a e = absurd cc
  read_well at (bytes b) a e = absurd cc
  read_well at (seq ts) a e = absurd cc
  read_well at (prim name annots args) a e = applied_well (former_of_name name) at (parts (at + 1) args) a (all_well (at + 1) args) e

  all_well : (at : ℕ) (ts : Trees) → AllWell (parts at ts)
  all_well at none = tt
  all_well at (more t ts) = (λ a e. read_well at t a e, all_well (at + size t) ts)

asked_true : (b : Bool) (r : Read) (l : ℕ) → b ≡ true → cond b r (bad l) ≡ r
asked_true true r l e = refl
asked_true false r l e = absurd cc

one_again : (f : OneArgument) (name : List ℕ) (t : Tree) (a : Kind) → former_of_name name ≡ one_argument f → asked_of_argument f a ≡ true →
    ((at : ℕ) → typed at t ≡ good a) → (at : ℕ) → typed at (named name (more t none)) ≡ good (of_argument f a)
one_again f name t a e h g at =
    ap (λ x. applied x at (part (at + 1) (typed (at + 1) t) ∷ [])) e
    ∙ ap (λ r. applied (one_argument f) at (part (at + 1) r ∷ [])) (g (at + 1))
    ∙ asked_true (asked_of_argument f a) (good (of_argument f a)) (at + 1) h

two_again : (f : TwoArguments) (name : List ℕ) (t u : Tree) (a b : Kind) → former_of_name name ≡ two_arguments f →
    asked_of_first f a ≡ true → asked_of_second f b ≡ true →
    ((at : ℕ) → typed at t ≡ good a) → ((at : ℕ) → typed at u ≡ good b) → (at : ℕ) → typed at (named name (more t (more u none))) ≡ good (of_arguments f a b)
two_again f name t u a b e h i g j at =
    let next : ℕ = at + 1 + size t in
    ap (λ x. applied x at (part (at + 1) (typed (at + 1) t) ∷ part next (typed next u) ∷ [])) e
    ∙ ap (λ r. applied (two_arguments f) at (part (at + 1) r ∷ part next (typed next u) ∷ [])) (g (at + 1))
    ∙ ap (λ r. applied (two_arguments f) at (part (at + 1) (good a) ∷ part next r ∷ [])) (j next)
    ∙ asked_true (asked_of_first f a) (cond (asked_of_second f b) (good (of_arguments f a b)) (bad next)) (at + 1) h
    ∙ asked_true (asked_of_second f b) (good (of_arguments f a b)) next i

pair_again : (name : List ℕ) (t u : Tree) (a b : Kind) → former_of_name name ≡ pair_type →
    ((at : ℕ) → typed at t ≡ good a) → ((at : ℕ) → typed at u ≡ good b) → (at : ℕ) → typed at (named name (more t (more u none))) ≡ good (k.pair a b)
pair_again name t u a b e g j at =
    let next : ℕ = at + 1 + size t in
    ap (λ x. applied x at (part (at + 1) (typed (at + 1) t) ∷ part next (typed next u) ∷ [])) e
    ∙ ap (λ r. applied pair_type at (part (at + 1) r ∷ part next (typed next u) ∷ [])) (g (at + 1))
    ∙ ap (λ r. applied pair_type at (part (at + 1) (good a) ∷ part next r ∷ [])) (j next)

bare_again : (f : Former) (a : Kind) (name : List ℕ) → former_of_name name ≡ f → ((at : ℕ) → applied f at [] ≡ good a) → (at : ℕ) → typed at (named name none) ≡ good a
bare_again f a name e h at = ap (λ x. applied x at []) e ∙ h at

simple_former : (v : Simple) → former_of_name (simple_name v) ≡ simple_type v
unfolding former_of_name primitive_of_name code_of_name primitive_of_code primitive_names primitives
simple_former s.Unit = refl
simple_former s.Never = refl
simple_former s.Bool = refl
simple_former s.Int = refl
simple_former s.Nat = refl
simple_former s.String = refl
simple_former s.Bytes = refl
simple_former s.Mutez = refl
simple_former s.Timestamp = refl
simple_former s.Key = refl
simple_former s.KeyHash = refl
simple_former s.Signature = refl
simple_former s.ChainId = refl
simple_former s.Address = refl

option_former : former_of_name (codes "option") ≡ one_argument one.Option
unfolding former_of_name primitive_of_name code_of_name primitive_of_code primitive_names primitives
option_former = refl

list_former : former_of_name (codes "list") ≡ one_argument one.List
unfolding former_of_name primitive_of_name code_of_name primitive_of_code primitive_names primitives
list_former = refl

set_former : former_of_name (codes "set") ≡ one_argument one.Set
unfolding former_of_name primitive_of_name code_of_name primitive_of_code primitive_names primitives
set_former = refl

contract_former : former_of_name (codes "contract") ≡ one_argument one.Contract
unfolding former_of_name primitive_of_name code_of_name primitive_of_code primitive_names primitives
contract_former = refl

ticket_former : former_of_name (codes "ticket") ≡ one_argument one.Ticket
unfolding former_of_name primitive_of_name code_of_name primitive_of_code primitive_names primitives
ticket_former = refl

or_former : former_of_name (codes "or") ≡ two_arguments two.Or
unfolding former_of_name primitive_of_name code_of_name primitive_of_code primitive_names primitives
or_former = refl

map_former : former_of_name (codes "map") ≡ two_arguments two.Map
unfolding former_of_name primitive_of_name code_of_name primitive_of_code primitive_names primitives
map_former = refl

big_map_former : former_of_name (codes "big_map") ≡ two_arguments two.BigMap
unfolding former_of_name primitive_of_name code_of_name primitive_of_code primitive_names primitives
big_map_former = refl

lambda_former : former_of_name (codes "lambda") ≡ two_arguments two.Lambda
unfolding former_of_name primitive_of_name code_of_name primitive_of_code primitive_names primitives
lambda_former = refl

pair_former : former_of_name (codes "pair") ≡ pair_type
unfolding former_of_name primitive_of_name code_of_name primitive_of_code primitive_names primitives
pair_former = refl

operation_former : former_of_name (codes "operation") ≡ operation_type
unfolding former_of_name primitive_of_name code_of_name primitive_of_code primitive_names primitives
operation_former = refl

pub read_again : (a : Kind) → IsWellFormed a → (at : ℕ) → typed at (node_of a) ≡ good a
read_again (k.simple v) h at = bare_again (simple_type v) (k.simple v) (simple_name v) (simple_former v) (λ n. refl) at
read_again k.operation h at = bare_again operation_type k.operation (codes "operation") operation_former (λ n. refl) at
read_again (k.option a) h at = one_again one.Option (codes "option") (node_of a) a option_former refl (read_again a h) at
read_again (k.or a b) h at = two_again two.Or (codes "or") (node_of a) (node_of b) a b or_former refl refl (read_again a h.0) (read_again b h.1) at
read_again (k.pair a b) h at = pair_again (codes "pair") (node_of a) (node_of b) a b pair_former (read_again a h.0) (read_again b h.1) at
read_again (k.list a) h at = one_again one.List (codes "list") (node_of a) a list_former refl (read_again a h) at
read_again (k.set a) h at = one_again one.Set (codes "set") (node_of a) a set_former h.0 (read_again a h.1) at
read_again (k.map a b) h at = two_again two.Map (codes "map") (node_of a) (node_of b) a b map_former h.0 refl (read_again a h.1) (read_again b h.2) at
read_again (k.big_map a b) h at = two_again two.BigMap (codes "big_map") (node_of a) (node_of b) a b big_map_former h.0 h.1 (read_again a h.2) (read_again b h.3) at
read_again (k.lambda a b) h at = two_again two.Lambda (codes "lambda") (node_of a) (node_of b) a b lambda_former refl refl (read_again a h.0) (read_again b h.1) at
read_again (k.contract a) h at = one_again one.Contract (codes "contract") (node_of a) a contract_former h.0 (read_again a h.1) at
read_again (k.ticket a) h at = one_again one.Ticket (codes "ticket") (node_of a) a ticket_former h.0 (read_again a h.1) at

type_same : (a b : Kind) → a_type a ≡ a_type b → a ≡ b
type_same a b e = cc

small : (b : Bool) (a c : Kind) → cond b (a_type a) too_large ≡ a_type c → (b ≡ true) × (a ≡ c)
small true a c e = (refl, type_same a c e)
small false a c e = absurd cc

pub within : (r : Read) (c : Kind) → limited r ≡ a_type c → (r ≡ good c) × (nat_le (nodes c) type_limit ≡ true)
within (good a) c e =
    let h = small (nat_le (nodes a) type_limit) a c e in
    (ap good h.1, subst (λ x. nat_le (nodes x) type_limit ≡ true) h.1 h.0)
within (bad l) c e = absurd cc

pub is_type : (b : Bool) (a : Kind) → b ≡ true → cond b (a_type a) too_large ≡ a_type a
is_type true a e = refl
is_type false a e = absurd cc

pub are_read : AreRead
are_read a at h small = ap limited (read_again a h at) ∙ is_type (nat_le (nodes a) type_limit) a (le-leb (nodes a) type_limit small)

pub well : WellFormed
well at t a e =
    let h = within (typed at t) a e in
    (read_well at t a h.0, leb-true (nodes a) type_limit h.1)
