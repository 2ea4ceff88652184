-- Names and tags are read as they are spelt.
use Rattle.std.proofs.Common.{◌≡◌, ℕ, zero, suc, ◌+◌, Bool, true, false, ◌&&◌, nat_eq, List, [], ◌∷◌, slice_get, Option, Some, None, Ok, refl, sym, ap, ◌∙◌, arith}
use Rattle.std.specs.Prelude.{unwrap_or}
use Rattle.std.proofs.lemmas.Bool.{eqb-true}
use Rattle.rules_text.specs.nodes.Primitives.{primitive_names, name_of_code, code_of_name}
use Rattle.rules_text.specs.declared.binary.Tag.{Tag}
use Rattle.rules_text.specs.declared.binary.Tag.TheVariants as tags
use Rattle.rules_text.specs.binary.Spelling.{code}
use Rattle.rules_text.specs.binary.Reading.{Spot, byte_at, tags_in_order, tag_by, tag_at, name_by, name_at}
use Rattle.laws_data.specs.binary.Laws.{Took}
use Rattle.laws_data.proofs.binary_lemmas.Fields.{bind_ok, ok_is, byte_took}

abbrev is_at : ℕ → Option ℕ → Bool
is_at i None = false
is_at i (Some c) = nat_eq c i

-- each of these names has its place from i on as its code
abbrev each_code : ℕ → List (List ℕ) → Bool
each_code i [] = true
each_code i (n ∷ ns) = is_at i (code_of_name n) && each_code (i + 1) ns

all_codes : each_code 0 primitive_names ≡ true
unfolding primitive_names code_of_name
all_codes = refl

is_at_is : (i : ℕ) (o : Option ℕ) → is_at i o ≡ true → o ≡ Some i
is_at_is i None e = absurd cc
is_at_is i (Some c) e = ap Some (eqb-true c i e)

and_first : (a b : Bool) → a && b ≡ true → a ≡ true
and_first true b e = refl
and_first false b e = e

and_second : (a b : Bool) → a && b ≡ true → b ≡ true
and_second true b e = e
and_second false b e = absurd cc

code_walk : (i : ℕ) (ns : List (List ℕ)) (c : ℕ) (name : List ℕ) → each_code i ns ≡ true → slice_get ns c ≡ Some name → code_of_name name ≡ Some (i + c)
code_walk i [] c name t e = absurd cc
code_walk i (n ∷ ns) zero name t e =
    let same : n ≡ name = cc in
    ap code_of_name (sym same) ∙ is_at_is i (code_of_name n) (and_first _ _ t) ∙ ap Some (omega arith)
code_walk i (n ∷ ns) (suc c) name t e = code_walk (i + 1) ns c name (and_second (is_at i (code_of_name n)) _ t) e ∙ ap Some (omega arith)

pub code_again : (c : ℕ) (name : List ℕ) → name_of_code c ≡ Some name → code_of_name name ≡ Some c
unfolding name_of_code
code_again c name e = code_walk 0 primitive_names c name all_codes e ∙ ap Some (omega arith)

name_by_is : (o : Option (List ℕ)) (place : ℕ) (s : Spot) (x : List ℕ × Spot) → name_by o place s ≡ Ok x → (o ≡ Some x.0) × (s ≡ x.1)
name_by_is None place s x e = absurd cc
name_by_is (Some name) place s x e = let same = ok_is (name, s) x e in (ap (λ (p : List ℕ × Spot). Some p.0) same, ap (λ (p : List ℕ × Spot). p.1) same)

pub name_took : (s after : Spot) (name : List ℕ) → name_at s ≡ Ok (name, after) → Took s (code name ∷ []) after
unfolding name_at
name_took s after name e =
    let b = bind_ok (byte_at s) (λ c. name_by (name_of_code c.0) s.place c.1) (name, after) e in
    let is = name_by_is (name_of_code b.0.0) s.place b.0.1 (name, after) b.2 in
    let known : code name ≡ b.0.0 = ap (λ o. unwrap_or o 0) (code_again b.0.0 name is.0) in
    let took : Took s (b.0.0 ∷ []) b.0.1 = byte_took s b.0.1 b.0.0 b.1 in
    took ∙ ap (λ (t : Spot). b.0.0 ∷ t.left) is.1 ∙ ap (λ (c : ℕ). c ∷ after.left) (sym known)

abbrev pub tag_byte : Tag → ℕ
tag_byte tags.Integer = 0
tag_byte tags.Text = 1
tag_byte tags.Sequence = 2
tag_byte tags.Alone = 3
tag_byte tags.AloneAnnotated = 4
tag_byte tags.One = 5
tag_byte tags.OneAnnotated = 6
tag_byte tags.Two = 7
tag_byte tags.TwoAnnotated = 8
tag_byte tags.Many = 9
tag_byte tags.Bytes = 10

abbrev each_tag : ℕ → List Tag → Bool
each_tag i [] = true
each_tag i (t ∷ ts) = nat_eq (tag_byte t) i && each_tag (i + 1) ts

tag_walk : (i : ℕ) (ts : List Tag) (b : ℕ) (tag : Tag) → each_tag i ts ≡ true → slice_get ts b ≡ Some tag → i + b ≡ tag_byte tag
tag_walk i [] b tag t e = absurd cc
tag_walk i (u ∷ us) zero tag t e =
    let same : u ≡ tag = cc in
    let here : tag_byte u ≡ i = eqb-true (tag_byte u) i (and_first _ _ t) in
    omega (arith, here, ap tag_byte same)
tag_walk i (u ∷ us) (suc b) tag t e = omega (arith, tag_walk (i + 1) us b tag (and_second (nat_eq (tag_byte u) i) _ t) e)

all_tags : each_tag 0 tags_in_order ≡ true
unfolding tags_in_order
all_tags = refl

tag_by_is : (o : Option Tag) (place : ℕ) (s : Spot) (x : Tag × Spot) → tag_by o place s ≡ Ok x → (o ≡ Some x.0) × (s ≡ x.1)
tag_by_is None place s x e = absurd cc
tag_by_is (Some tag) place s x e = let same = ok_is (tag, s) x e in (ap (λ (p : Tag × Spot). Some p.0) same, ap (λ (p : Tag × Spot). p.1) same)

pub tag_took : (s after : Spot) (tag : Tag) → tag_at s ≡ Ok (tag, after) → Took s (tag_byte tag ∷ []) after
unfolding tag_at
tag_took s after tag e =
    let b = bind_ok (byte_at s) (λ c. tag_by (slice_get tags_in_order c.0) s.place c.1) (tag, after) e in
    let is = tag_by_is (slice_get tags_in_order b.0.0) s.place b.0.1 (tag, after) b.2 in
    let known : b.0.0 ≡ tag_byte tag = omega (arith, tag_walk 0 tags_in_order b.0.0 tag all_tags is.0) in
    byte_took s b.0.1 b.0.0 b.1 ∙ ap (λ (t : Spot). b.0.0 ∷ t.left) is.1 ∙ ap (λ (c : ℕ). c ∷ after.left) known
