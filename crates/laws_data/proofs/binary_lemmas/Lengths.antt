-- What stands in a field of a spelling is shorter than the spelling.
use Rattle.std.proofs.Common.{◌≡◌, ℕ, zero, suc, ◌+◌, ◌^◌, ◌<◌, ◌≤◌, List, [], ◌∷◌, length, arith}
use Rattle.std.proofs.lemmas.List.{length-append}
use Rattle.rules_text.specs.nodes.Tree.{Tree, int, str, bytes, prim, seq, Trees, none, more}
use Rattle.rules_text.specs.binary.Spelling.{field, joined, short, application, count, code, spelling, spellings}

abbrev mutual
  -- what stands in a field of this node's spelling has a length of four bytes
  pub HasLengths : Tree → Type 0
  HasLengths (int n) = Unit {0}
  HasLengths (str s) = length s < 2 ^ 32
  HasLengths (bytes b) = length b < 2 ^ 32
  HasLengths (prim name annotations args) = (length (spellings args) < 2 ^ 32) × (length (joined annotations) < 2 ^ 32) × HaveLengths args
  HasLengths (seq ts) = (length (spellings ts) < 2 ^ 32) × HaveLengths ts

  pub HaveLengths : Trees → Type 0
  HaveLengths none = Unit {0}
  HaveLengths (more t ts) = HasLengths t × HaveLengths ts

pub length_field : (content : List ℕ) → length (field content) ≡ 4 + length content
unfolding field
length_field content = omega arith

short_parts : (tag c : ℕ) (args notes : List ℕ) → (length args ≤ length (short tag c args notes)) × (length notes ≤ length (short tag c args notes))
short_parts tag c args [] = (omega arith, omega arith)
short_parts tag c args (b ∷ bs) =
    let whole = length-append args (field (b ∷ bs)) in
    let notes = length_field (b ∷ bs) in
    (omega (arith, whole, notes), omega (arith, whole, notes))

application_parts : (c n : ℕ) (args notes : List ℕ) → (length args ≤ length (application c n args notes)) × (length notes ≤ length (application c n args notes))
unfolding application
application_parts c zero args notes = short_parts 3 c args notes
application_parts c (suc zero) args notes = short_parts 5 c args notes
application_parts c (suc (suc zero)) args notes = short_parts 7 c args notes
application_parts c (suc (suc (suc n))) args notes =
    let whole = length-append (field args) (field notes) in
    let front = length_field args in
    let back = length_field notes in
    (omega (arith, whole, front, back), omega (arith, whole, front, back))

mutual
  pub lengths : (t : Tree) → length (spelling t) < 2 ^ 32 → HasLengths t
  lengths (int n) h = tt
  lengths (str s) h = omega (arith, h, length_field s)
  lengths (bytes b) h = omega (arith, h, length_field b)
  lengths (prim name annotations args) h =
      let parts = application_parts (code name) (count args) (spellings args) (joined annotations) in
      let inner : length (spellings args) < 2 ^ 32 = omega (arith, h, parts.0) in
      (inner, omega (arith, h, parts.1), all_lengths args inner)
  lengths (seq ts) h =
      let inner : length (spellings ts) < 2 ^ 32 = omega (arith, h, length_field (spellings ts)) in
      (inner, all_lengths ts inner)

  all_lengths : (ts : Trees) → length (spellings ts) < 2 ^ 32 → HaveLengths ts
  all_lengths none h = tt
  all_lengths (more t ts) h =
      let whole = length-append (spelling t) (spellings ts) in
      (lengths t (omega (arith, h, whole)), all_lengths ts (omega (arith, h, whole)))
