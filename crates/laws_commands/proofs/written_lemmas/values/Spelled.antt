-- The bytes of what is packed and of hashes.
use Rattle.std.proofs.Common.{◌≡◌, ◌<◌, ◌≤◌, ◌+◌, ◌/◌, ◌%◌, ℕ, zero, suc, Bool, true, false, cond, nat_lt, List, [], ◌∷◌, length, refl, arith}
use Rattle.std.specs.Prelude.{◌==◌, ◌||◌, ℤ, pos, negsuc, slice_index, Option, Some, None}
use Rattle.std.specs.List.{AllByRecursion, flat_map}
use Rattle.std.specs.Int.{w32, w64, to_be_bytes, to_le_bytes}
use Rattle.std.proofs.lemmas.Bool.Decides.{nat_tests}
use Rattle.sha2.specs.Sha256 as short
use Rattle.sha2.specs.Sha512 as long
use Rattle.rules_text.specs.nodes.Tree.{Tree, int, str, bytes, prim, seq, Trees, none, more}
use Rattle.rules_text.specs.text.Lexical.{is_noted, shape_of}
use Rattle.rules_text.specs.declared.text.Shape.{Shape}
use Rattle.rules_text.specs.declared.text.Shape.TheVariants.{Digits, Quoted, Word, Note, OpenBrace, CloseBrace, OpenParen, CloseParen, Semicolon}
use Rattle.rules_text.specs.binary.Spelling.{groups_within, groups, signed_groups, integer, field, joined, short, application, count, code, spelling, spellings}
use Rattle.rules_text.specs.hash.Blake2b.{blake}
use Rattle.rules_data.specs.types.Printing.{node_of}
use Rattle.rules_data.specs.values.Val.{Val, Vals, no_val, more_vals, Pairs, no_pair, more_pairs}
use Rattle.rules_data.specs.values.Val as v
use Rattle.rules_data.specs.values.Canonical.{truth_node, lambda_node, canonical, canonicals, canonical_entries}
use Rattle.rules_code.specs.steps.Packing.{packed}
use Rattle.mich_text.specs.Written.{IsAnnotation, AreAnnotations, HasTextForm, HaveTextForms}
use Rattle.laws_commands.proofs.written_lemmas.values.Levels.{text_form}
use Rattle.laws_commands.specs.written.Written.{IsByte, AreBytes, IsWritten, AreWritten, EntriesAreWritten}
use Rattle.laws_commands.proofs.written_lemmas.values.Bytes.{high_first, low_first, bytes_from, text_bytes}
use Rattle.laws_commands.proofs.written_lemmas.values.Names.{code_small}
use Rattle.laws_commands.proofs.written_lemmas.values.Values.{kind_form}
use Rattle.laws_commands.proofs.common.Lists.{all_append, all_take, all_test}

-- ---- hashes

digest_256 : (h : List ℕ) (n : ℕ) → AreBytes (short.digest_bytes h n)
unfolding short.digest_bytes
digest_256 h zero = tt
digest_256 h (suc n) = all_append IsByte (short.digest_bytes h n) (to_be_bytes w32 (slice_index h n)) (digest_256 h n)
    (high_first 4 (slice_index h n))

digest_512 : (h : List ℕ) (n : ℕ) → AreBytes (long.digest_bytes h n)
unfolding long.digest_bytes
digest_512 h zero = tt
digest_512 h (suc n) = all_append IsByte (long.digest_bytes h n) (to_be_bytes w64 (slice_index h n)) (digest_512 h n)
    (high_first 8 (slice_index h n))

pub sha256_bytes : (m : List ℕ) → AreBytes (short.sha256 m)
unfolding short.sha256
sha256_bytes m = digest_256 (short.final_hash short.initial_hash_256 m) 8

pub sha512_bytes : (m : List ℕ) → AreBytes (long.sha512 m)
unfolding long.sha512
sha512_bytes m = digest_512 (long.final_hash long.initial_hash_512 m) 8

words_bytes : (ws : List ℕ) → AreBytes (flat_map (to_le_bytes w64) ws)
words_bytes [] = tt
words_bytes (w ∷ ws) = all_append IsByte (to_le_bytes w64 w) (flat_map (to_le_bytes w64) ws) (low_first 0 8 w) (words_bytes ws)

pub blake_bytes : (len : ℕ) (m : List ℕ) → AreBytes (blake len m)
unfolding blake
blake_bytes len m = all_take IsByte len _ (words_bytes _)

-- ---- the binary form

group_small : (n : ℕ) → 128 + n % 128 < 256
group_small n = omega arith

groups_bytes : (k n : ℕ) → n ≤ k → AreBytes (groups_within k n)
groups_bytes zero n h = (omega arith, tt)
groups_bytes (suc k) n h = by (nat_lt n 128) refl (λ big. groups_bytes k (n / 128) (omega (arith, big, h)))
  where
    by : (b : Bool) → nat_lt n 128 ≡ b → (128 ≤ n → AreBytes (groups_within k (n / 128))) →
        AreBytes (cond b (n ∷ []) ((128 + n % 128) ∷ groups_within k (n / 128)))
    by true e g = ((grind (arith, nat_tests)), tt)
    by false e g = (group_small n, g (grind (arith, nat_tests)))

signed_bytes : (sign n : ℕ) → sign ≤ 64 → AreBytes (signed_groups sign n)
unfolding groups
signed_bytes sign n h = by (nat_lt n 64) refl
  where
    by : (b : Bool) → nat_lt n 64 ≡ b → AreBytes (cond b ((sign + n) ∷ []) ((128 + sign + n % 64) ∷ groups (n / 64)))
    by true e = ((grind (arith, nat_tests)), tt)
    by false e = ((omega arith), groups_bytes (n / 64) (n / 64) (omega arith))

integer_bytes : (z : ℤ) → AreBytes (integer z)
unfolding integer
integer_bytes (pos n) = signed_bytes 0 n (omega arith)
integer_bytes (negsuc n) = signed_bytes 64 (suc n) (omega arith)

field_bytes : (b : List ℕ) → AreBytes b → AreBytes (field b)
unfolding field
field_bytes b h = all_append IsByte (to_be_bytes w32 (length b)) b (high_first 4 (length b)) h

-- a letter, a digit or one of a few signs
noted_small : (c : ℕ) → is_noted c ≡ true → c < 256
noted_small c h = grind (arith, nat_tests)

sign_is : (a b d f : Bool) (rest : Option Shape) → (rest ≡ Some Note → ⊥) →
    cond a (Some Digits) (cond b (Some Quoted) (cond d (Some Word) (cond f (Some Note) rest))) ≡ Some Note → f ≡ true
sign_is a b d true rest h e = refl
sign_is true b d false rest h e = absurd cc
sign_is false true d false rest h e = absurd cc
sign_is false false true false rest h e = absurd cc
sign_is false false false false rest h e = absurd (h e)

no_note : (a b d f g : Bool) →
    cond a (Some OpenBrace) (cond b (Some CloseBrace) (cond d (Some OpenParen) (cond f (Some CloseParen) (cond g (Some Semicolon) None)))) ≡
    Some Note → ⊥
no_note true b d f g e = cc
no_note false true d f g e = cc
no_note false false true f g e = cc
no_note false false false true g e = cc
no_note false false false false true e = cc
no_note false false false false false e = cc

-- the first byte of an annotation
sign_small : (c : ℕ) → shape_of c ≡ Some Note → c < 256
sign_small c e =
    let sign : (c == 64 || (c == 58 || c == 37)) ≡ true = sign_is _ _ _ _ _ (no_note (c == 123) (c == 125) (c == 40) (c == 41) (c == 59)) e
    in
    grind (arith, nat_tests, sign)

annotation_bytes : (a : List ℕ) → IsAnnotation a → AreBytes a
annotation_bytes [] h = tt
annotation_bytes (c ∷ cs) h = (sign_small c h.0, all_test IsByte is_noted cs noted_small h.1)

annotations_bytes : (xs : List (List ℕ)) → AreAnnotations xs → AllByRecursion AreBytes xs
annotations_bytes [] h = tt
annotations_bytes (a ∷ xs) h = (annotation_bytes a h.0, annotations_bytes xs h.1)

joined_bytes : (xs : List (List ℕ)) → AllByRecursion AreBytes xs → AreBytes (joined xs)
joined_bytes [] h = tt
joined_bytes (a ∷ []) h = h.0
joined_bytes (a ∷ b ∷ xs) h = all_append IsByte a (32 ∷ joined (b ∷ xs)) h.0 (omega arith, joined_bytes (b ∷ xs) h.1)

short_bytes : (tag c : ℕ) (args notes : List ℕ) → tag < 200 → c < 256 → AreBytes args → AreBytes notes → AreBytes (short tag c args notes)
short_bytes tag c args [] t h i j = (omega (arith, t), (h, i))
short_bytes tag c args (b ∷ bs) t h i j = (omega (arith, t), (h, all_append IsByte args (field (b ∷ bs)) i (field_bytes (b ∷ bs) j)))

application_bytes : (c n : ℕ) (args notes : List ℕ) → c < 256 → AreBytes args → AreBytes notes → AreBytes (application c n args notes)
unfolding application
application_bytes c zero args notes h i j = short_bytes 3 c args notes (omega arith) h i j
application_bytes c (suc zero) args notes h i j = short_bytes 5 c args notes (omega arith) h i j
application_bytes c (suc (suc zero)) args notes h i j = short_bytes 7 c args notes (omega arith) h i j
application_bytes c (suc (suc (suc n))) args notes h i j =
    (omega arith, (h, all_append IsByte (field args) (field notes) (field_bytes args i) (field_bytes notes j)))

abbrev mutual
  -- all bytes in a node are bytes
  HasBytes : Tree → Type 0
  HasBytes (int n) = Unit {0}
  HasBytes (str s) = AreBytes s
  HasBytes (bytes b) = AreBytes b
  HasBytes (prim name annotations args) = AllByRecursion AreBytes annotations × HaveBytes args
  HasBytes (seq ts) = HaveBytes ts

  HaveBytes : Trees → Type 0
  HaveBytes none = Unit {0}
  HaveBytes (more t ts) = HasBytes t × HaveBytes ts

mutual
  spelling_bytes : (t : Tree) → HasBytes t → AreBytes (spelling t)
  spelling_bytes (int n) h = (omega arith, integer_bytes n)
  spelling_bytes (str s) h = (omega arith, field_bytes s h)
  spelling_bytes (bytes b) h = (omega arith, field_bytes b h)
  spelling_bytes (prim name annotations args) h =
      application_bytes (code name) (count args) (spellings args) (joined annotations) (code_small name) (spellings_bytes args h.1)
      (joined_bytes annotations h.0)
  spelling_bytes (seq ts) h = (omega arith, field_bytes (spellings ts) (spellings_bytes ts h))

  spellings_bytes : (ts : Trees) → HaveBytes ts → AreBytes (spellings ts)
  spellings_bytes none h = tt
  spellings_bytes (more t ts) h = all_append IsByte (spelling t) (spellings ts) (spelling_bytes t h.0) (spellings_bytes ts h.1)

-- ---- values

mutual
  form_bytes : (t : Tree) → HasTextForm t → HasBytes t
  form_bytes (int n) h = tt
  form_bytes (str s) h = text_bytes s h.0
  form_bytes (bytes b) h = bytes_from b h.0
  form_bytes (prim name annotations args) h = (annotations_bytes annotations h.1, forms_bytes args h.2)
  form_bytes (seq ts) h = forms_bytes ts h

  forms_bytes : (ts : Trees) → HaveTextForms ts → HaveBytes ts
  forms_bytes none h = tt
  forms_bytes (more t ts) h = (form_bytes t h.0, forms_bytes ts h.1)

lambda_bytes : (t : Tree) (recursive : Bool) → HasTextForm t → HasBytes (lambda_node t recursive)
lambda_bytes t true h = (tt, (form_bytes t h, tt))
lambda_bytes t false h = form_bytes t h

truth_bytes : (b : Bool) → HasBytes (truth_node b)
truth_bytes true = (tt, tt)
truth_bytes false = (tt, tt)

mutual
  value_bytes : (x : Val) → IsWritten x → HasBytes (canonical x)
  value_bytes v.unit h = (tt, tt)
  value_bytes (v.truth b) h = truth_bytes b
  value_bytes (v.number n) h = tt
  value_bytes (v.text b) h = h
  value_bytes (v.bytes b) h = h
  value_bytes v.nothing h = (tt, tt)
  value_bytes (v.some x) h = (tt, (value_bytes x h, tt))
  value_bytes (v.left x) h = (tt, (value_bytes x h, tt))
  value_bytes (v.right x) h = (tt, (value_bytes x h, tt))
  value_bytes (v.both x y) h = (tt, (value_bytes x h.0, (value_bytes y h.1, tt)))
  value_bytes (v.list xs) h = values_bytes xs h
  value_bytes (v.set xs) h = values_bytes xs h
  value_bytes (v.table es) h = entries_bytes es h
  value_bytes (v.big_table es) h = entries_bytes es h
  value_bytes (v.lambda t recursive) h = lambda_bytes t recursive (text_form t h)
  value_bytes (v.operation n) h = tt
  value_bytes (v.ticket issuer kind content amount) h = (
    tt,
    (
      h.1,
      (
        form_bytes (node_of kind) (kind_form kind),
        (
          value_bytes content h.2,
          (tt, tt),
        ),
      ),
    ),
  )

  values_bytes : (xs : Vals) → AreWritten xs → HaveBytes (canonicals xs)
  values_bytes no_val h = tt
  values_bytes (more_vals x xs) h = (value_bytes x h.0, values_bytes xs h.1)

  entries_bytes : (es : Pairs) → EntriesAreWritten es → HaveBytes (canonical_entries es)
  entries_bytes no_pair h = tt
  entries_bytes (more_pairs x y es) h = ((tt, (value_bytes x h.0, (value_bytes y h.1, tt))), entries_bytes es h.2)

pub packed_bytes : (x : Val) → IsWritten x → AreBytes (packed x)
packed_bytes x h = (omega arith, spelling_bytes (canonical x) (value_bytes x h))
