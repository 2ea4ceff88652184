-- A node has at most half as many nodes as its spelling has bytes.
use Rattle.std.proofs.Common.{◌≡◌, ℕ, zero, suc, ◌+◌, ◌*◌, ◌/◌, ◌%◌, ◌≤◌, List, [], ◌∷◌, Bool, true, false, cond, length, Ok, ap, arith, nat_lt}
use Rattle.std.specs.Prelude.{ℤ, pos, negsuc}
use Rattle.std.proofs.lemmas.List.{length-append}
use Rattle.rules_text.specs.nodes.Tree.{Tree, int, str, bytes, prim, seq, Trees, none, more, size, sizes}
use Rattle.rules_text.specs.binary.Spelling.{field, groups, integer, joined, short, application, count, code, spelling, spellings}
use Rattle.rules_text.specs.binary.Reading.{decoded}
use Rattle.laws_data.specs.binary.Laws.{IsBytes}
use Rattle.laws_data.proofs.binary_lemmas.Lengths.{length_field}
use Rattle.laws_data.proofs.binary_lemmas.Nodes.{decoded_is_spelt}

some_by : (b : Bool) (x y : ℕ) (ys : List ℕ) → 1 ≤ length (cond b (x ∷ []) (y ∷ ys))
some_by true x y ys = omega arith
some_by false x y ys = omega arith

some_integer : (z : ℤ) → 1 ≤ length (integer z)
unfolding integer
some_integer (pos n) = some_by (nat_lt n 64) (0 + n) (128 + 0 + n % 64) (groups (n / 64))
some_integer (negsuc n) = some_by (nat_lt (suc n) 64) (64 + suc n) (128 + 64 + suc n % 64) (groups (suc n / 64))

short_room : (tag c : ℕ) (args notes : List ℕ) → 2 + length args ≤ length (short tag c args notes)
short_room tag c args [] = omega arith
short_room tag c args (b ∷ bs) = omega (arith, length-append args (field (b ∷ bs)))

application_room : (c n : ℕ) (args notes : List ℕ) → 2 + length args ≤ length (application c n args notes)
unfolding application
application_room c zero args notes = short_room 3 c args notes
application_room c (suc zero) args notes = short_room 5 c args notes
application_room c (suc (suc zero)) args notes = short_room 7 c args notes
application_room c (suc (suc (suc n))) args notes = omega (arith, length-append (field args) (field notes), length_field args)

mutual
  pub half_as_many : (t : Tree) → 2 * size t ≤ length (spelling t)
  half_as_many (int n) = omega (arith, some_integer n)
  half_as_many (str s) = omega (arith, length_field s)
  half_as_many (bytes b) = omega (arith, length_field b)
  half_as_many (prim name annotations args) =
      omega (arith, application_room (code name) (count args) (spellings args) (joined annotations), all_half args)
  half_as_many (seq ts) = omega (arith, length_field (spellings ts), all_half ts)

  all_half : (ts : Trees) → 2 * sizes ts ≤ length (spellings ts)
  all_half none = omega arith
  all_half (more t ts) = omega (arith, half_as_many t, all_half ts, length-append (spelling t) (spellings ts))

pub decoded_half : (b : List ℕ) (t : Tree) → IsBytes b → decoded b ≡ Ok t → 2 * size t ≤ length b
decoded_half b t fits e = omega (arith, half_as_many t, ap length (decoded_is_spelt b t fits e))
