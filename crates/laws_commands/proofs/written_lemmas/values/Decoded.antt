-- A node that is decoded of bytes can be written.
use Rattle.std.proofs.Common.{◌≡◌, ◌≤◌, ◌^◌, ◌+◌, ◌*◌, ◌%◌, ℕ, zero, suc, Bool, true, false, cond, ◌&&◌, ◌||◌, nat_lt, nat_le, Option, Some, None, Result, Ok, Err, List, [], ◌∷◌, length, take, drop, slice_get, refl, subst, sym, arith}
use Rattle.std.specs.Prelude.{◌==◌, ℤ, pos, neg_ℤ, max}
use Rattle.std.specs.List.{list_all, prefix_len}
use Rattle.std.specs.Int.{w32, from_be_bytes}
use Rattle.std.proofs.lemmas.Bool.{and_parts, leb-true, eqb-true}
use Rattle.std.proofs.lemmas.Bool.Decides.{nat_tests}
use Rattle.rules_text.specs.nodes.Limits.{byte_limit, name_limit, depth_limit}
use Rattle.rules_text.specs.nodes.Tree.{Tree, int, str, bytes, prim, seq, Trees, none, more, depth, depths}
use Rattle.rules_text.specs.nodes.Primitives.{name_of_code}
use Rattle.rules_text.specs.text.Lexical.{shape_of}
use Rattle.rules_text.specs.text.Lexical as text
use Rattle.rules_text.specs.declared.text.Shape.TheVariants.{Note}
use Rattle.rules_text.specs.binary.Spelling.{count}
use Rattle.rules_text.specs.declared.binary.DecodeKind.TheVariants.{BadLength, BadString, BadTag, Trailing, TooDeep, TooWide}
use Rattle.rules_text.specs.declared.binary.Tag.{Tag}
use Rattle.rules_text.specs.declared.binary.Tag.TheVariants as tags
use Rattle.rules_text.specs.binary.Reading.{Fault, Spot, ◌>>=◌, fault, past, byte_of, byte_at, field_of, field_at, narrow_field_at, goes_on, groups_value, is_longer, ranged, integer_of, integer_by, integer_at, is_text, string_at, bytes_at, is_noted, is_annotation, pieces, annotations_of, any_annotations, annotations_at, any_annotations_at, short_annotations_at, name_by, name_at, arguments_at, nodes_within, nodes_at, application_at, many_at, node_by, tags_in_order, tag_by, tag_at, node_at, decoded}
use Rattle.mich_text.specs.Written.{IsNumber, IsString, IsBytes, IsName, IsAnnotation, AreAnnotations, HasTextForm, HaveTextForms}
use Rattle.mich_text.specs.Written as forms
use Rattle.laws_commands.specs.written.Written.{HasForm, IsByte, AreBytes}
use Rattle.laws_commands.proofs.written_lemmas.values.Levels.{closed}
use Rattle.laws_commands.proofs.written_lemmas.values.Bytes.{bytes_tested}
use Rattle.laws_commands.proofs.written_lemmas.values.Names.{coded_name}
use Rattle.laws_commands.proofs.common.Lists.{all_take, all_drop}

-- what is read has P, and bytes are left
abbrev Gives : {A : Type 0} → (A → Type 0) → Result (A × Spot) Fault → Type 0
Gives P (Ok (x, s)) = P x × AreBytes s.left
Gives P (Err e) = Unit {0}

abbrev GivesOne : {A : Type 0} → (A → Type 0) → Result A Fault → Type 0
GivesOne P (Ok x) = P x
GivesOne P (Err e) = Unit {0}

then_gives : {A B : Type 0} (P : A → Type 0) (Q : B → Type 0) (r : Result (A × Spot) Fault) (f : A × Spot → Result (B × Spot) Fault) →
    Gives P r →
    ((x : A) (s : Spot) → P x → AreBytes s.left → Gives Q (f (x, s))) → Gives Q (r >>= f)
then_gives P Q (Ok (x, s)) f h g = g x s h.0 h.1
then_gives P Q (Err e) f h g = tt

one_gives : {A B : Type 0} (P : A → Type 0) (Q : B → Type 0) (r : Result A Fault) (f : A → Result (B × Spot) Fault) → GivesOne P r →
    ((x : A) → P x → Gives Q (f x)) → Gives Q (r >>= f)
one_gives P Q (Ok x) f h g = g x h
one_gives P Q (Err e) f h g = tt

abbrev Reads : {A : Type 0} → (A → Type 0) → (Spot → Result (A × Spot) Fault) → Type 0
Reads P r = (s : Spot) → AreBytes s.left → Gives P (r s)

-- ---- bytes and fields

byte_gives : Reads IsByte byte_at
unfolding byte_at
byte_gives s h = by s.left h
  where
    by : (b : List ℕ) → AreBytes b → Gives IsByte (byte_of s.place b)
    by [] h = tt
    by (c ∷ b) h = h

abbrev HasBytes : Spot → Type 0
HasBytes s = AreBytes s.left

field_gives : Reads HasBytes field_at
unfolding field_at
field_gives s h = by (nat_lt (length s.left) 4)
  where
    inner : (n : ℕ) (b : Bool) →
        Gives HasBytes (cond b (fault BadLength s.place) (Ok (
          record { place = s.place + 4; left = take n (drop 4 s.left) },
          past (4 + n) s,
        )))
    inner n true = tt
    inner n false = (all_take IsByte n (drop 4 s.left) (all_drop IsByte 4 s.left h), all_drop IsByte (4 + n) s.left h)

    by : (b : Bool) → Gives HasBytes (cond b (fault BadLength s.place) (field_of (from_be_bytes w32 (take 4 s.left)) s))
    by true = tt
    by false = inner (from_be_bytes w32 (take 4 s.left)) (nat_lt (length s.left) (4 + from_be_bytes w32 (take 4 s.left)))

abbrev IsNarrow : Spot → Type 0
IsNarrow s = AreBytes s.left × (length s.left ≤ byte_limit)

narrow_gives : Reads IsNarrow narrow_field_at
unfolding narrow_field_at
narrow_gives s h =
    then_gives HasBytes IsNarrow (field_at s) _ (field_gives s h) (λ x t g i. by x t g i (nat_lt byte_limit (length x.left)) refl)
  where
    by : (x t : Spot) → AreBytes x.left → AreBytes t.left → (b : Bool) → nat_lt byte_limit (length x.left) ≡ b →
        Gives IsNarrow (cond b (fault TooWide s.place) (Ok (x, t)))
    by x t g i true e = tt
    by x t g i false e = ((g, (grind (arith, nat_tests))), i)

-- ---- integers

negative_is : (n : ℕ) → n ≤ 2 ^ 127 → IsNumber (neg_ℤ (pos n))
negative_is zero h = omega arith
negative_is (suc n) h = omega (arith, h)

abbrev OnNumber : Option ℤ → Type 0
OnNumber None = Unit {0}
OnNumber (Some z) = IsNumber z

ranged_is : (b : Bool) (n : ℕ) → OnNumber (ranged b n)
ranged_is true n = by (nat_lt (2 ^ 127) n) refl
  where
    by : (b : Bool) → nat_lt (2 ^ 127) n ≡ b → OnNumber (cond b None (Some (neg_ℤ (pos n))))
    by true e = tt
    by false e = negative_is n (grind (arith, nat_tests))
ranged_is false n = by (nat_le (2 ^ 127) n) refl
  where
    by : (b : Bool) → nat_le (2 ^ 127) n ≡ b → OnNumber (cond b None (Some (pos n)))
    by true e = tt
    by false e = grind (arith, nat_tests)

integer_is : (b : List ℕ) → OnNumber (integer_of b)
integer_is [] = tt
integer_is (c ∷ b) = by (is_longer c b)
  where
    by : (t : Bool) → OnNumber (cond t None (ranged (nat_le 64 (c % 128)) (c % 64 + 64 * groups_value b)))
    by true = tt
    by false = ranged_is (nat_le 64 (c % 128)) (c % 64 + 64 * groups_value b)

integer_gives : Reads IsNumber integer_at
unfolding integer_at
integer_gives s h = by (nat_lt (length s.left) (prefix_len goes_on s.left + 1))
  where
    inner : (n : ℕ) (o : Option ℤ) → OnNumber o → Gives IsNumber (integer_by o n s)
    inner n None g = tt
    inner n (Some z) g = (g, all_drop IsByte n s.left h)

    by : (b : Bool) →
        Gives IsNumber (cond b (fault BadLength s.place)
        (integer_by (integer_of (take (prefix_len goes_on s.left + 1) s.left)) (prefix_len goes_on s.left + 1) s))
    by true = tt
    by false = inner (prefix_len goes_on s.left + 1) (integer_of (take (prefix_len goes_on s.left + 1) s.left))
        (integer_is (take (prefix_len goes_on s.left + 1) s.left))

-- ---- strings and bytes

same_text : (c : ℕ) → is_text c ≡ true → forms.is_text c ≡ true
same_text c h = grind (arith, nat_tests)

prefix_all : (xs : List ℕ) → length xs ≤ prefix_len is_text xs → list_all forms.is_text xs ≡ true
prefix_all [] h = refl
prefix_all (x ∷ xs) h = by (is_text x) refl (λ g. prefix_all xs g) h
  where
    both : (a b : Bool) → a ≡ true → b ≡ true → (a && b) ≡ true
    both true b e g = g
    both false b e g = e

    by : (b : Bool) → is_text x ≡ b → (length xs ≤ prefix_len is_text xs → list_all forms.is_text xs ≡ true) →
        suc (length xs) ≤ cond b (1 + prefix_len is_text xs) 0 → (forms.is_text x && list_all forms.is_text xs) ≡ true
    by true e again g = both (forms.is_text x) (list_all forms.is_text xs) (same_text x e) (again (omega (arith, g)))
    by false e again g = absurd (omega (arith, g))

string_gives : Reads IsString string_at
unfolding string_at
string_gives s h = then_gives IsNarrow IsString (narrow_field_at s) _ (narrow_gives s h) (λ x t g i.
    by x t g i (nat_lt (prefix_len is_text x.left) (length x.left)) refl)
  where
    by : (x t : Spot) → IsNarrow x → AreBytes t.left → (b : Bool) → nat_lt (prefix_len is_text x.left) (length x.left) ≡ b →
        Gives IsString (cond b (fault BadString (x.place + prefix_len is_text x.left)) (Ok (x.left, t)))
    by x t g i true e = tt
    by x t g i false e = ((prefix_all x.left (grind (arith, nat_tests)), g.1), i)

bytes_give : Reads IsBytes bytes_at
unfolding bytes_at
bytes_give s h = then_gives IsNarrow IsBytes (narrow_field_at s) _ (narrow_gives s h) (λ x t g i. ((bytes_tested x.left g.0, g.1), i))

-- ---- annotations

signed : (c : ℕ) → (c == 64 || c == 58 || c == 37) ≡ true → shape_of c ≡ Some Note
signed c h = by (c == 64) (c == 58) (c == 37) refl refl refl h
  where
    is : (k : ℕ) → c ≡ k → shape_of k ≡ Some Note → shape_of c ≡ Some Note
    is k e f = subst (λ (n : ℕ). shape_of n ≡ Some Note) (sym e) f

    by : (p q r : Bool) → (c == 64) ≡ p → (c == 58) ≡ q → (c == 37) ≡ r → (p || q || r) ≡ true → shape_of c ≡ Some Note
    by true q r e f g h = is 64 (eqb-true c 64 e) refl
    by false true r e f g h = is 58 (eqb-true c 58 f) refl
    by false false true e f g h = is 37 (eqb-true c 37 g) refl
    by false false false e f g h = absurd cc

same_noted : (c : ℕ) → is_noted c ≡ true → text.is_noted c ≡ true
same_noted c h = grind (arith, nat_tests)

all_noted : (xs : List ℕ) → list_all is_noted xs ≡ true → list_all text.is_noted xs ≡ true
all_noted [] h = refl
all_noted (x ∷ xs) h =
    let hs = and_parts (is_noted x) (list_all is_noted xs) h in
    both (text.is_noted x) (list_all text.is_noted xs) (same_noted x hs.0) (all_noted xs hs.1)
  where
    both : (a b : Bool) → a ≡ true → b ≡ true → (a && b) ≡ true
    both true b e g = g
    both false b e g = e

annotation_is : (a : List ℕ) → is_annotation a ≡ true → IsAnnotation a
annotation_is [] h = absurd cc
annotation_is (c ∷ cs) h =
    let outer = and_parts ((c == 64 || c == 58 || c == 37) && list_all is_noted cs) (nat_le (length cs) name_limit) h in
    let inner = and_parts (c == 64 || c == 58 || c == 37) (list_all is_noted cs) outer.0 in
    (signed c inner.0, all_noted cs inner.1, leb-true (length cs) name_limit outer.1)

annotations_are : (xs : List (List ℕ)) → list_all is_annotation xs ≡ true → AreAnnotations xs
annotations_are [] h = tt
annotations_are (a ∷ xs) h = let hs = and_parts (is_annotation a) (list_all is_annotation xs) h in
    (annotation_is a hs.0, annotations_are xs hs.1)

of_gives : (s : Spot) → GivesOne AreAnnotations (annotations_of s)
of_gives s = by (list_all is_annotation (pieces s.left)) refl
  where
    by : (b : Bool) → list_all is_annotation (pieces s.left) ≡ b →
        GivesOne AreAnnotations (cond b (Ok (pieces s.left)) (fault BadString s.place))
    by true e = annotations_are (pieces s.left) e
    by false e = tt

any_gives : (s : Spot) (b : List ℕ) → GivesOne AreAnnotations (any_annotations s b)
any_gives s [] = tt
any_gives s (c ∷ b) = of_gives s

annotations_give : Reads AreAnnotations annotations_at
unfolding annotations_at
annotations_give s h =
    then_gives HasBytes AreAnnotations (field_at s) _ (field_gives s h) (λ x t g i.
    one_gives AreAnnotations AreAnnotations (annotations_of x) (λ a. Ok (a, t)) (of_gives x) (λ a j. (j, i)))

any_annotations_give : Reads AreAnnotations any_annotations_at
unfolding any_annotations_at
any_annotations_give s h =
    then_gives HasBytes AreAnnotations (field_at s) _ (field_gives s h) (λ x t g i.
    one_gives AreAnnotations AreAnnotations (any_annotations x x.left) (λ a. Ok (a, t)) (any_gives x x.left) (λ a j. (j, i)))

short_annotations_give : (b : Bool) → Reads AreAnnotations (short_annotations_at b)
short_annotations_give true s h = annotations_give s h
short_annotations_give false s h = (tt, h)

-- ---- nodes

name_gives : Reads IsName name_at
unfolding name_at
name_gives s h = then_gives IsByte IsName (byte_at s) _ (byte_gives s h) (λ c t g i. by c t i (name_of_code c) refl)
  where
    by : (c : ℕ) (t : Spot) → AreBytes t.left → (o : Option (List ℕ)) → name_of_code c ≡ o → Gives IsName (name_by o s.place t)
    by c t i None e = tt
    by c t i (Some name) e = (coded_name c name e, i)

tag_gives : Reads (λ t. Unit {0}) tag_at
unfolding tag_at
tag_gives s h = then_gives IsByte (λ t. Unit {0}) (byte_at s) _ (byte_gives s h) (λ c t g i. by t i (slice_get tags_in_order c))
  where
    by : (t : Spot) → AreBytes t.left → (o : Option Tag) → Gives (λ t. Unit {0}) (tag_by o s.place t)
    by t i None = tt
    by t i (Some tag) = (tt, i)

-- with at most so many levels
abbrev IsBelow : ℕ → Tree → Type 0
IsBelow n t = HasTextForm t × (depth t ≤ n)

abbrev AreBelow : ℕ → Trees → Type 0
AreBelow n ts = HaveTextForms ts × (depths ts ≤ n)

none_below : (n : ℕ) → AreBelow n none
none_below n = (tt, omega arith)

both_below : (n a b : ℕ) → a ≤ n → b ≤ n → max a b ≤ n
both_below n a b h g = omega (arith, h, g)

more_below : (n : ℕ) (t : Tree) (ts : Trees) → IsBelow n t → AreBelow n ts → AreBelow n (more t ts)
more_below n t ts h g = ((h.0, g.0), both_below n (depth t) (depths ts) h.1 g.1)

one_more : (n a : ℕ) → a ≤ n → a + 1 ≤ suc n
one_more n a h = omega (arith, h)

one_level : (n : ℕ) → 1 ≤ suc n
one_level n = omega arith

prim_below : (n : ℕ) (name : List ℕ) (annots : List (List ℕ)) (ts : Trees) → IsName name → AreAnnotations annots → AreBelow n ts →
    IsBelow (suc n) (prim name annots ts)
prim_below n name annots ts h g i = ((h, g, i.0), one_more n (depths ts) i.1)

seq_below : (n : ℕ) (ts : Trees) → AreBelow n ts → IsBelow (suc n) (seq ts)
seq_below n ts i = (i.0, one_more n (depths ts) i.1)

module _ (node : Spot → Result (Tree × Spot) Fault) (most : ℕ) (reads : Reads (IsBelow most) node) where
  arguments_give : (n : ℕ) → Reads (AreBelow most) (arguments_at node n)
  arguments_give zero s h = (none_below most, h)
  arguments_give (suc n) s h =
      then_gives (IsBelow most) (AreBelow most) (node s) _ (reads s h) (λ t u g i.
      then_gives (AreBelow most) (AreBelow most) (arguments_at node n u) (λ others. Ok (more t others.0, others.1)) (arguments_give n u i)
      (λ ts w j l. (more_below most t ts g j, l)))

  within_give : (n : ℕ) → Reads (AreBelow most) (nodes_within node n)
  within_give zero s h = (none_below most, h)
  within_give (suc n) s h = by (length s.left == 0) (λ u i. within_give n u i)
    where
      by : (b : Bool) → Reads (AreBelow most) (nodes_within node n) → Gives (AreBelow most) (cond b (Ok (none, s)) (node s >>= λ first.
          nodes_within node n first.1 >>= λ others. Ok (more first.0 others.0, others.1)))
      by true again = (none_below most, h)
      by false again =
          then_gives (IsBelow most) (AreBelow most) (node s) _ (reads s h) (λ t u g i.
          then_gives (AreBelow most) (AreBelow most) (nodes_within node n u) (λ others. Ok (more t others.0, others.1)) (again u i)
          (λ ts w j l. (more_below most t ts g j, l)))

  nodes_give : Reads (AreBelow most) (nodes_at node)
  unfolding nodes_at
  nodes_give s h =
      then_gives HasBytes (AreBelow most) (field_at s) _ (field_gives s h) (λ x t g i.
      then_gives (AreBelow most) (AreBelow most) (nodes_within node (length x.left) x) (λ nodes. Ok (nodes.0, t))
      (within_give (length x.left) x g) (λ ts w j l. (j, i)))

  application_gives : (n : ℕ) (b : Bool) → Reads (IsBelow (suc most)) (application_at node n b)
  unfolding application_at
  application_gives n b s h =
      then_gives IsName (IsBelow (suc most)) (name_at s) _ (name_gives s h) (λ name t g i.
      then_gives (AreBelow most) (IsBelow (suc most)) (arguments_at node n t)
      (λ args. short_annotations_at b args.1 >>= λ annotations. Ok (prim name annotations.0 args.0, annotations.1))
      (arguments_give n t i) (λ args u j l.
      then_gives AreAnnotations (IsBelow (suc most)) (short_annotations_at b u) (λ annotations. Ok (prim name annotations.0 args, annotations.1))
      (short_annotations_give b u l) (λ annots w k m. (prim_below most name annots args g k j, m))))

  many_gives : (place : ℕ) → Reads (IsBelow (suc most)) (many_at node place)
  unfolding many_at
  many_gives place s h =
      then_gives IsName (IsBelow (suc most)) (name_at s) _ (name_gives s h) (λ name t g i.
      then_gives (AreBelow most) (IsBelow (suc most)) (nodes_at node t) _ (nodes_give t i)
      (λ args u j l. by name args u g j l (nat_lt (count args) 3)))
    where
      by : (name : List ℕ) (args : Trees) (u : Spot) → IsName name → (AreBelow most) args → AreBytes u.left → (b : Bool) →
          Gives (IsBelow (suc most)) (cond b (fault BadTag place) (any_annotations_at u >>= λ annotations. Ok (
            prim name annotations.0 args,
            annotations.1,
          )))
      by name args u g j l true = tt
      by name args u g j l false =
          then_gives AreAnnotations (IsBelow (suc most)) (any_annotations_at u) (λ annotations. Ok (prim name annotations.0 args, annotations.1))
          (any_annotations_give u l) (λ annots w k m. (prim_below most name annots args g k j, m))

  node_gives : (tag : Tag) (place : ℕ) → Reads (IsBelow (suc most)) (node_by node tag place)
  unfolding node_by
  node_gives tags.Integer place s h = then_gives IsNumber (IsBelow (suc most)) (integer_at s) (λ z. Ok (int z.0, z.1)) (integer_gives s h)
      (λ z t g i. ((g, one_level most), i))
  node_gives tags.Text place s h = then_gives IsString (IsBelow (suc most)) (string_at s) (λ x. Ok (str x.0, x.1)) (string_gives s h)
      (λ z t g i. ((g, one_level most), i))
  node_gives tags.Sequence place s h = then_gives (AreBelow most) (IsBelow (suc most)) (nodes_at node s) (λ x. Ok (seq x.0, x.1)) (nodes_give s h)
      (λ z t g i. (seq_below most z g, i))
  node_gives tags.Alone place s h = application_gives 0 false s h
  node_gives tags.AloneAnnotated place s h = application_gives 0 true s h
  node_gives tags.One place s h = application_gives 1 false s h
  node_gives tags.OneAnnotated place s h = application_gives 1 true s h
  node_gives tags.Two place s h = application_gives 2 false s h
  node_gives tags.TwoAnnotated place s h = application_gives 2 true s h
  node_gives tags.Many place s h = many_gives place s h
  node_gives tags.Bytes place s h = then_gives IsBytes (IsBelow (suc most)) (bytes_at s) (λ x. Ok (bytes x.0, x.1)) (bytes_give s h)
      (λ z t g i. ((g, one_level most), i))

level_gives : (n : ℕ) → Reads (IsBelow n) (node_at n)
unfolding node_at
level_gives zero s h = then_gives (λ t. Unit {0}) (IsBelow zero) (tag_at s) (λ tag. fault TooDeep s.place) (tag_gives s h) (λ tag t g i. tt)
level_gives (suc n) s h =
    then_gives (λ t. Unit {0}) (IsBelow (suc n)) (tag_at s) (λ tag. node_by (node_at n) tag.0 s.place tag.1) (tag_gives s h)
    (λ tag t g i. node_gives (node_at n) n (level_gives n) tag s.place t i)

pub decoded_form : (b : List ℕ) (t : Tree) → AreBytes b → decoded b ≡ Ok t → HasForm t
unfolding decoded
decoded_form b t h e = by (node_at depth_limit (record { place = 0; left = b }))
    (level_gives depth_limit (record { place = 0; left = b }) h) e
  where
    inner : (x : Tree) (s : Spot) → IsBelow depth_limit x → (q : Bool) → cond q (Ok x) (fault {A = Tree} Trailing s.place) ≡ Ok t → HasForm t
    inner x s g true f = let same : x ≡ t = cc in subst HasForm same (closed x g.0 g.1)
    inner x s g false f = absurd cc

    by : (r : Result (Tree × Spot) Fault) → Gives (IsBelow depth_limit) r →
        (r >>= λ root. cond (length root.1.left == 0) (Ok root.0) (fault Trailing root.1.place)) ≡ Ok t → HasForm t
    by (Ok (x, s)) g f = inner x s g.0 (length s.left == 0) f
    by (Err x) g f = absurd cc
