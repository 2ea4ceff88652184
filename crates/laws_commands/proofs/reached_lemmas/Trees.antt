-- A node that can be written and whose names are primitives' has a binary form.
use Rattle.std.proofs.Common.{◌≡◌, ◌≤◌, ◌<◌, ◌^◌, ℕ, pos, negsuc, true, false, ◌&&◌, ◌||◌, nat_lt, nat_le, Option, Some, None, List, [], ◌∷◌, length, refl, arith}
use Rattle.std.specs.Prelude.{◌==◌, is_none}
use Rattle.std.specs.List.{list_all}
use Rattle.std.proofs.lemmas.Bool.{and_parts, and_from}
use Rattle.std.proofs.lemmas.Bool.Decides.{nat_tests}
use Rattle.rules_text.specs.nodes.Limits.{name_limit, encoded_limit}
use Rattle.rules_text.specs.nodes.Tree.{Tree, int, str, bytes, prim, seq, Trees, none, more}
use Rattle.rules_text.specs.nodes.Primitives.{code_of_name}
use Rattle.rules_text.specs.text.Lexical.{shape_of}
use Rattle.rules_text.specs.text.Lexical as text
use Rattle.rules_text.specs.declared.text.Shape.TheVariants.{Note}
use Rattle.rules_text.specs.binary.Spelling.{spelling}
use Rattle.rules_text.specs.binary.Reading.{is_text, is_noted, is_annotation}
use Rattle.rules_files.specs.snapshots.Loading.{is_long}
use Rattle.rules_files.specs.snapshots.Spelt.{IsNode}
use Rattle.laws_data.specs.binary.Laws.{HasCode, HasBinaryForm, HaveBinaryForms}
use Rattle.laws_data.proofs.binary_lemmas.DecodedNodes.{nodes_are_decoded}
use Rattle.laws_typing.specs.packing.Names.{HasCodes, HaveCodes}
use Rattle.mich_text.specs.Written.{IsAnnotation, AreAnnotations, HasTextForm, HaveTextForms, CanBeWritten}
use Rattle.mich_text.specs.Written as forms

-- ---- strings

same_text : (c : ℕ) → forms.is_text c ≡ true → is_text c ≡ true
same_text c h = grind (arith, nat_tests)

all_text : (s : List ℕ) → list_all forms.is_text s ≡ true → list_all is_text s ≡ true
all_text [] h = refl
all_text (c ∷ s) h =
    let hs = and_parts (forms.is_text c) (list_all forms.is_text s) h in
    and_from (is_text c) (list_all is_text s) (same_text c hs.0) (all_text s hs.1)

-- ---- annotations

noted_first : (c : ℕ) → shape_of c ≡ Some Note → (c == 64 || c == 58 || c == 37) ≡ true
noted_first c h = grind (arith, nat_tests)

same_noted : (c : ℕ) → text.is_noted c ≡ true → is_noted c ≡ true
same_noted c h = grind (arith, nat_tests)

all_noted : (xs : List ℕ) → list_all text.is_noted xs ≡ true → list_all is_noted xs ≡ true
all_noted [] h = refl
all_noted (x ∷ xs) h =
    let hs = and_parts (text.is_noted x) (list_all text.is_noted xs) h in
    and_from (is_noted x) (list_all is_noted xs) (same_noted x hs.0) (all_noted xs hs.1)

short : (n : ℕ) → n ≤ name_limit → nat_le n name_limit ≡ true
short n h = grind (arith, nat_tests)

annotation : (a : List ℕ) → IsAnnotation a → is_annotation a ≡ true
annotation [] h = absurd cc
annotation (c ∷ cs) h =
    and_from ((c == 64 || c == 58 || c == 37) && list_all is_noted cs) (nat_le (length cs) name_limit)
    (and_from (c == 64 || c == 58 || c == 37) (list_all is_noted cs) (noted_first c h.0) (all_noted cs h.1)) (short (length cs) h.2)

annotations : (xs : List (List ℕ)) → AreAnnotations xs → list_all is_annotation xs ≡ true
annotations [] h = refl
annotations (a ∷ xs) h = and_from (is_annotation a) (list_all is_annotation xs) (annotation a h.0) (annotations xs h.1)

-- ---- nodes

coded : (name : List ℕ) → is_none (code_of_name name) ≡ false → HasCode name
coded name h = by (code_of_name name) h refl
  where
    by : (o : Option ℕ) → is_none o ≡ false → code_of_name name ≡ o → HasCode name
    by (Some n) h e = (n, e)
    by None h e = absurd cc

mutual
  pub binary : (t : Tree) → HasTextForm t → HasCodes t → HasBinaryForm t
  binary (int (pos n)) h c = h
  binary (int (negsuc n)) h c = h
  binary (str s) h c = (all_text s h.0, h.1)
  binary (bytes b) h c = h.1
  binary (prim name annots ts) h c = (coded name c.0, annotations annots h.1, binaries ts h.2 c.1)
  binary (seq ts) h c = binaries ts h c

  binaries : (ts : Trees) → HaveTextForms ts → HaveCodes ts → HaveBinaryForms ts
  binaries none h c = tt
  binaries (more t ts) h c = (binary t h.0 c.0, binaries ts h.1 c.1)

long_false : (n : ℕ) → nat_lt encoded_limit n ≡ false → n < 2 ^ 32
long_false n h = grind (arith, nat_tests)

-- such a node of at most so many levels, whose binary form isn't too long, is decoded from that
pub node_is : (t : Tree) → CanBeWritten t → HasCodes t → is_long t ≡ false → IsNode t
node_is t h c e =
    let few = long_false (length (spelling t)) e in
    (few, nodes_are_decoded t (binary t h.0 c) h.1 few)
