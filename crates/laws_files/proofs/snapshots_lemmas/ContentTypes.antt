-- Types of contents are read as they are spelt.
use Rattle.std.proofs.Common.{◌≡◌, ℕ, zero, suc, ◌+◌, Bool, true, false, cond, leb, ◌&&◌, nat_eq, List, [], ◌∷◌, ◌++◌, length, drop, map, slice_get, codes, Option, Some, None, Result, Ok, Err, refl, sym, ap, subst, ◌∙◌, append_assoc, append-nil, arith}
use Rattle.std.specs.Option.{option_map}
use Rattle.std.specs.Prelude.{option_and_then}
use Rattle.std.proofs.lemmas.Bool.{eqb-true}
use Rattle.std.proofs.lemmas.List.{map-append, length-append}
use Rattle.std.proofs.Math.Seq.{drop-append_seam}
use Rattle.rules_text.specs.nodes.Primitives.{primitive_names, primitives, code_of_name, primitive_of_code}
use Rattle.rules_text.specs.declared.nodes.Primitive.{Primitive}
use Rattle.rules_text.specs.nodes.Tree.{Tree, preorder}
use Rattle.rules_text.specs.binary.Spelling.{code}
use Rattle.rules_text.specs.binary.Reading.{Spot, past}
use Rattle.rules_data.specs.declared.types.OneArgument.TheVariants as one
use Rattle.rules_data.specs.declared.types.TwoArguments.TheVariants as two
use Rattle.rules_data.specs.types.Kind.{Kind, nodes}
use Rattle.rules_data.specs.types.Kind as k
use Rattle.rules_data.specs.types.Printing.{simple_name, node_of}
use Rattle.rules_data.specs.types.Reading.{Former, simple_type, operation_type, one_argument, two_arguments, pair_type, no_type, former_of}
use Rattle.rules_files.specs.snapshots.Spelling.{code_of_node, kind_spelling}
use Rattle.rules_files.specs.snapshots.Reading.{kind_by, kind_within, content_nodes, kind_of, kind_at}
use Rattle.laws_files.specs.snapshots.Laws.{Takes}
use Rattle.laws_files.proofs.snapshots_lemmas.Fields.{Reads, ok_is}

-- ---- codes

-- what makes a comparable type stands at the code of its name
abbrev has_code : Former → ℕ → Bool
has_code (simple_type c) i = nat_eq (code (simple_name c)) i
has_code (one_argument one.Option) i = nat_eq (code (codes "option")) i
has_code (two_arguments two.Or) i = nat_eq (code (codes "or")) i
has_code pair_type i = nat_eq (code (codes "pair")) i
has_code f i = true

abbrev have_codes : ℕ → List Primitive → Bool
have_codes i [] = true
have_codes i (p ∷ ps) = has_code (former_of (Some p)) i && have_codes (i + 1) ps

all_have_codes : have_codes 0 primitives ≡ true
unfolding primitives primitive_names code_of_name
all_have_codes = refl

and_first : (a b : Bool) → a && b ≡ true → a ≡ true
and_first true b e = refl
and_first false b e = e

and_second : (a b : Bool) → a && b ≡ true → b ≡ true
and_second true b e = e
and_second false b e = absurd cc

code_walk : (i : ℕ) (ps : List Primitive) (c : ℕ) → have_codes i ps ≡ true → has_code (former_of (slice_get ps c)) (i + c) ≡ true
code_walk i [] c t = refl
code_walk i (p ∷ ps) zero t = ap (has_code (former_of (Some p))) (omega arith) ∙ and_first _ _ t
code_walk i (p ∷ ps) (suc c) t = ap (has_code (former_of (slice_get ps c))) (omega arith) ∙ code_walk (i + 1) ps c (and_second (has_code (former_of (Some p)) i) _ t)

former_has_code : (b : ℕ) → has_code (former_of (primitive_of_code b)) b ≡ true
unfolding primitive_of_code
former_has_code b = ap (has_code (former_of (slice_get primitives b))) (omega arith) ∙ code_walk 0 primitives b all_have_codes

-- ---- types

abbrev Text : Tree → List ℕ
Text t = map code_of_node (preorder t)

-- the spelling of a node with one argument, and with two
pub one_part : (c : ℕ) (a : Kind) → c ∷ map code_of_node (preorder (node_of a) ++ []) ≡ c ∷ kind_spelling a
one_part c a = ap (λ (ts : List Tree). c ∷ map code_of_node ts) (append-nil (preorder (node_of a)))

pub two_parts : (c : ℕ) (a b : Kind) → c ∷ map code_of_node (preorder (node_of a) ++ (preorder (node_of b) ++ [])) ≡ c ∷ (kind_spelling a ++ kind_spelling b)
two_parts c a b =
    ap (λ (ts : List Tree). c ∷ map code_of_node (preorder (node_of a) ++ ts)) (append-nil (preorder (node_of b)))
    ∙ ap (λ (r : List ℕ). c ∷ r) (map-append code_of_node (preorder (node_of a)) (preorder (node_of b)))

-- a type stands at the head of the bytes, as many as it has nodes
IsRead : List ℕ → Kind × List ℕ → Type 0
IsRead bs p = (bs ≡ kind_spelling p.0 ++ p.1) × (length (kind_spelling p.0) ≡ nodes p.0)

abbrev found : {A : Type 0} → A → Option A
found x = Some x

some_is : {A : Type 0} (x y : A) → found x ≡ found y → x ≡ y
some_is x y e = cc

map_some : {A B : Type 0} (f : A → B) (o : Option A) (y : B) → option_map f o ≡ Some y → (x : A) × (o ≡ Some x) × (f x ≡ y)
map_some f None y e = absurd cc
map_some f (Some x) y e = (x, refl, some_is (f x) y e)

then_some : {A B : Type 0} (f : A → Option B) (o : Option A) (y : B) → option_and_then f o ≡ Some y → (x : A) × (o ≡ Some x) × (f x ≡ Some y)
then_some f None y e = absurd cc
then_some f (Some x) y e = (x, refl, e)

abbrev ReadsKinds : (List ℕ → Option (Kind × List ℕ)) → Type 0
ReadsKinds next = (bs : List ℕ) (p : Kind × List ℕ) → next bs ≡ Some p → IsRead bs p

option_read : (next : List ℕ → Option (Kind × List ℕ)) → ReadsKinds next → (b : ℕ) (bs : List ℕ) (p : Kind × List ℕ) → code (codes "option") ≡ b
    → option_map (λ (a : Kind × List ℕ). (k.option a.0, a.1)) (next bs) ≡ Some p → IsRead (b ∷ bs) p
unfolding IsRead
option_read next reads b bs p c e =
    let a = map_some (λ (a : Kind × List ℕ). (k.option a.0, a.1)) (next bs) p e in
    let inner = reads bs a.0 a.1 in
    let spelt : kind_spelling (k.option a.0.0) ≡ code (codes "option") ∷ kind_spelling a.0.0 = one_part (code (codes "option")) a.0.0 in
    subst (λ (q : Kind × List ℕ). ((b ∷ bs) ≡ kind_spelling q.0 ++ q.1) × (length (kind_spelling q.0) ≡ nodes q.0)) a.2 (
      ap (λ (r : List ℕ). b ∷ r) inner.0 ∙ ap (λ (d : ℕ). d ∷ (kind_spelling a.0.0 ++ a.0.1)) (sym c) ∙ ap (λ (r : List ℕ). r ++ a.0.1) (sym spelt),
      ap length spelt ∙ omega (arith, inner.1),
    )

pair_made : (made : Kind → Kind → Kind) (c : ℕ) → ((a b : Kind) → kind_spelling (made a b) ≡ c ∷ (kind_spelling a ++ kind_spelling b))
    → ((a b : Kind) → nodes (made a b) ≡ nodes a + nodes b + 1)
    → (next : List ℕ → Option (Kind × List ℕ)) → ReadsKinds next → (b : ℕ) (bs : List ℕ) (p : Kind × List ℕ) → c ≡ b
    → option_and_then (λ (x : Kind × List ℕ). option_map (λ (y : Kind × List ℕ). (made x.0 y.0, y.1)) (next x.1)) (next bs) ≡ Some p → IsRead (b ∷ bs) p
unfolding IsRead
pair_made made c text size next reads b bs p same e =
    let x = then_some (λ (x : Kind × List ℕ). option_map (λ (y : Kind × List ℕ). (made x.0 y.0, y.1)) (next x.1)) (next bs) p e in
    let y = map_some (λ (y : Kind × List ℕ). (made x.0.0 y.0, y.1)) (next x.0.1) p x.2 in
    let first = reads bs x.0 x.1 in
    let second = reads x.0.1 y.0 y.1 in
    let A = kind_spelling x.0.0 in
    let B = kind_spelling y.0.0 in
    let whole : bs ≡ (A ++ B) ++ y.0.1 = first.0 ∙ ap (λ (r : List ℕ). A ++ r) second.0 ∙ sym (append_assoc A B y.0.1) in
    subst (λ (q : Kind × List ℕ). ((b ∷ bs) ≡ kind_spelling q.0 ++ q.1) × (length (kind_spelling q.0) ≡ nodes q.0)) y.2 (
      ap (λ (r : List ℕ). b ∷ r) whole ∙ ap (λ (d : ℕ). d ∷ ((A ++ B) ++ y.0.1)) (sym same) ∙ ap (λ (r : List ℕ). r ++ y.0.1) (sym (text x.0.0 y.0.0)),
      ap length (text x.0.0 y.0.0) ∙ omega (arith, first.1, second.1, length-append A B, size x.0.0 y.0.0),
    )

by_read : (f : Former) (next : List ℕ → Option (Kind × List ℕ)) → ReadsKinds next → (b : ℕ) (bs : List ℕ) (p : Kind × List ℕ) → has_code f b ≡ true
    → kind_by f next bs ≡ Some p → IsRead (b ∷ bs) p
unfolding IsRead
by_read (simple_type c) next reads b bs p h e =
    let made : Kind × List ℕ = (k.simple c, bs) in
    subst (λ (q : Kind × List ℕ). ((b ∷ bs) ≡ kind_spelling q.0 ++ q.1) × (length (kind_spelling q.0) ≡ nodes q.0)) (some_is made p e)
    (ap (λ (d : ℕ). d ∷ bs) (sym (eqb-true (code (simple_name c)) b h)), refl)
by_read operation_type next reads b bs p h e = absurd cc
by_read (one_argument one.Option) next reads b bs p h e = option_read next reads b bs p (eqb-true (code (codes "option")) b h) e
by_read (one_argument one.List) next reads b bs p h e = absurd cc
by_read (one_argument one.Set) next reads b bs p h e = absurd cc
by_read (one_argument one.Contract) next reads b bs p h e = absurd cc
by_read (one_argument one.Ticket) next reads b bs p h e = absurd cc
by_read (two_arguments two.Or) next reads b bs p h e =
    pair_made k.or (code (codes "or")) (λ a c. two_parts (code (codes "or")) a c) (λ a c. refl) next reads b bs p (eqb-true (code (codes "or")) b h) e
by_read (two_arguments two.Map) next reads b bs p h e = absurd cc
by_read (two_arguments two.BigMap) next reads b bs p h e = absurd cc
by_read (two_arguments two.Lambda) next reads b bs p h e = absurd cc
by_read pair_type next reads b bs p h e =
    pair_made k.pair (code (codes "pair")) (λ a c. two_parts (code (codes "pair")) a c) (λ a c. refl) next reads b bs p (eqb-true (code (codes "pair")) b h) e
by_read no_type next reads b bs p h e = absurd cc

within_reads : (n : ℕ) → ReadsKinds (kind_within n)
within_reads zero bs p e = absurd cc
within_reads (suc n) [] p e = absurd cc
within_reads (suc n) (b ∷ bs) p e = by_read (former_of (primitive_of_code b)) (kind_within n) (within_reads n) b bs p (former_has_code b) e

-- ---- the field

guard_true : {A : Type 0} (b : Bool) (x : Result A ℕ) (d : ℕ) (y : A) → cond b x (Err d) ≡ Ok y → x ≡ Ok y
guard_true true x d y e = e
guard_true false x d y e = absurd cc

kind_of_takes : (o : Option (Kind × List ℕ)) (s after : Spot) (a : Kind) → ((p : Kind × List ℕ) → o ≡ Some p → IsRead s.left p)
    → kind_of o s ≡ Ok (a, after) → Takes s (kind_spelling a) after
unfolding IsRead
kind_of_takes None s after a read e = absurd cc
kind_of_takes (Some p) s after a read e =
    let r = read p refl in
    let g = guard_true (leb (nodes p.0) content_nodes) (Ok (p.0, past (nodes p.0) s)) s.place (a, after) e in
    let rest : drop (nodes p.0) s.left ≡ p.1 =
    ap (λ (n : ℕ). drop n s.left) (sym r.1) ∙ ap (drop (length (kind_spelling p.0))) r.0 ∙ drop-append_seam (kind_spelling p.0) p.1 in
    let made : Kind × Spot = (p.0, past (nodes p.0) s) in
    subst (λ (q : Kind × Spot). Takes s (kind_spelling q.0) q.1) (ok_is made (a, after) g)
    (r.0 ∙ ap (λ (xs : List ℕ). kind_spelling p.0 ++ xs) (sym rest), omega (arith, r.1))

pub kind_takes : Reads kind_at kind_spelling
unfolding kind_at
kind_takes s after a fits e = kind_of_takes (kind_within content_nodes s.left) s after a (λ p is. within_reads content_nodes s.left p is) e

-- ---- how long a type's spelling is

texts_length : (ts : List Tree) → length (map code_of_node ts) ≡ length ts
texts_length [] = refl
texts_length (t ∷ ts) = ap suc (texts_length ts)

two_nodes : (xs ys : List Tree) (m n : ℕ) → length xs ≡ m → length ys ≡ n → suc (length (xs ++ (ys ++ []))) ≡ m + n + 1
two_nodes xs ys m n lx ly = omega (arith, length-append xs (ys ++ []), ap length (append-nil ys), lx, ly)

preorder_nodes : (a : Kind) → length (preorder (node_of a)) ≡ nodes a
preorder_nodes (k.simple c) = refl
preorder_nodes k.operation = refl
preorder_nodes (k.option a) = omega (arith, ap length (append-nil (preorder (node_of a))), preorder_nodes a)
preorder_nodes (k.list a) = omega (arith, ap length (append-nil (preorder (node_of a))), preorder_nodes a)
preorder_nodes (k.set a) = omega (arith, ap length (append-nil (preorder (node_of a))), preorder_nodes a)
preorder_nodes (k.contract a) = omega (arith, ap length (append-nil (preorder (node_of a))), preorder_nodes a)
preorder_nodes (k.ticket a) = omega (arith, ap length (append-nil (preorder (node_of a))), preorder_nodes a)
preorder_nodes (k.or a b) = two_nodes (preorder (node_of a)) (preorder (node_of b)) (nodes a) (nodes b) (preorder_nodes a) (preorder_nodes b)
preorder_nodes (k.pair a b) = two_nodes (preorder (node_of a)) (preorder (node_of b)) (nodes a) (nodes b) (preorder_nodes a) (preorder_nodes b)
preorder_nodes (k.map a b) = two_nodes (preorder (node_of a)) (preorder (node_of b)) (nodes a) (nodes b) (preorder_nodes a) (preorder_nodes b)
preorder_nodes (k.big_map a b) = two_nodes (preorder (node_of a)) (preorder (node_of b)) (nodes a) (nodes b) (preorder_nodes a) (preorder_nodes b)
preorder_nodes (k.lambda a b) = two_nodes (preorder (node_of a)) (preorder (node_of b)) (nodes a) (nodes b) (preorder_nodes a) (preorder_nodes b)

pub kind_length : (a : Kind) → length (kind_spelling a) ≡ nodes a
kind_length a = texts_length (preorder (node_of a)) ∙ preorder_nodes a
