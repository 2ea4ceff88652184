-- Looking for the first name that is no primitive's, part by part.
use Rattle.std.proofs.Common.{◌≡◌, ℕ, suc, ◌+◌, ◌<◌, List, [], ◌∷◌, ◌++◌, Bool, true, false, cond, not, length, get_or, drop, Some, None, Result, Ok, Err, refl, sym, ap, ◌∙◌, arith, nat_lt}
use Rattle.std.specs.List.{position, position_or_len}
use Rattle.std.proofs.lemmas.Bool.Decides.{nat_tests}
use Rattle.std.proofs.lemmas.List.{at_drop_more}
use Rattle.rules_text.specs.nodes.Tree.{Tree, preorder, preorders, size, sizes}
use Rattle.rules_text.specs.binary.Encoding.{lacks_code}
use Rattle.mich_base.specs.View.{tree, trees}
use Rattle.mich_base.specs.declared.node.Node.{Node}
use Rattle.mich_binary.specs.Scanning.{scanned}

-- from where a part ended, if nothing was found there
abbrev pub onward : List Tree → Result ℕ ℕ → Result ℕ ℕ
onward ys (Ok at) = scanned at ys
onward ys (Err found) = Err found

append_by : (b : Bool) (at : ℕ) (ys : List Tree) (all part : Result ℕ ℕ) → all ≡ onward ys part → cond b (Err at) all ≡ onward ys (cond b (Err at) part)
append_by true at ys all part e = refl
append_by false at ys all part e = e

pub scan_append : (xs ys : List Tree) (at : ℕ) → scanned at (xs ++ ys) ≡ onward ys (scanned at xs)
scan_append [] ys at = refl
scan_append (x ∷ xs) ys at = append_by (lacks_code x) at ys (scanned (at + 1) (xs ++ ys)) (scanned (at + 1) xs) (scan_append xs ys (at + 1))

-- one more node of a list
pub scan_more : (xs : List Node) (i : ℕ) (x : Node) (at : ℕ) → i < length xs → x ≡ get_or xs i x
    → scanned at (preorders (trees (drop i xs))) ≡ onward (preorders (trees (drop (i + 1) xs))) (scanned at (preorder (tree x)))
scan_more xs i x at h e =
    at_drop_more (λ ns. scanned at (preorders (trees ns))) xs i x h ∙ ap (λ y. scanned at (preorders (trees (y ∷ drop (i + 1) xs)))) (sym e) ∙ scan_append (preorder (tree x)) (preorders (trees (drop (i + 1) xs))) at

pub size_more : (xs : List Node) (i : ℕ) (x : Node) → i < length xs → x ≡ get_or xs i x → sizes (trees (drop i xs)) ≡ size (tree x) + sizes (trees (drop (i + 1) xs))
size_more xs i x h e = at_drop_more (λ ns. sizes (trees ns)) xs i x h ∙ ap (λ y. size (tree y) + sizes (trees (drop (i + 1) xs))) (sym e)

-- what is found is the first place, and the location behind is that of all
placed : ℕ → ℕ → Bool → Result ℕ ℕ
placed at n true = Err (at + n)
placed at n false = Ok (at + n)

abbrev is_within : List Tree → Bool
is_within ts = nat_lt (position_or_len lacks_code ts) (length ts)

placed_more : (at n : ℕ) (b : Bool) → placed (at + 1) n b ≡ placed at (1 + n) b
unfolding placed
placed_more at n true = ap Err (omega arith)
placed_more at n false = ap Ok (omega arith)

places_by : (at : ℕ) (b : Bool) (n k : ℕ) (rest : Result ℕ ℕ) → rest ≡ placed (at + 1) n (nat_lt n k) → cond b (Err at) rest ≡ placed at (cond (not b) (1 + n) 0) (nat_lt (cond (not b) (1 + n) 0) (suc k))
unfolding placed
places_by at true n k rest e = let some : nat_lt 0 (suc k) ≡ true = grind (arith, nat_tests) in rw some (ap Err (omega arith))
places_by at false n k rest e = let same : nat_lt (1 + n) (suc k) ≡ nat_lt n k = grind (arith, nat_tests) in e ∙ placed_more at n (nat_lt n k) ∙ ap (placed at (1 + n)) (sym same)

scan_places : (ts : List Tree) (at : ℕ) → scanned at ts ≡ placed at (position_or_len lacks_code ts) (is_within ts)
unfolding placed
scan_places [] at = ap Ok (omega arith)
scan_places (t ∷ ts) at = places_by at (lacks_code t) (position_or_len lacks_code ts) (length ts) (scanned (at + 1) ts) (scan_places ts (at + 1))

found_by : (b : Bool) (n location : ℕ) → Err location ≡ placed 0 n b → Some location ≡ cond b (Some n) None
unfolding placed
found_by true n location e = let same : location ≡ 0 + n = cc in ap Some (same ∙ omega arith)
found_by false n location e = absurd cc

none_by : (b : Bool) (n behind : ℕ) → Ok behind ≡ placed 0 n b → None ≡ cond b (Some n) None
unfolding placed
none_by true n behind e = absurd cc
none_by false n behind e = refl

pub first_found : (ts : List Tree) (location : ℕ) → Err location ≡ scanned 0 ts → Some location ≡ position lacks_code ts
first_found ts location e = found_by (is_within ts) (position_or_len lacks_code ts) location (e ∙ scan_places ts 0)

pub none_found : (ts : List Tree) (behind : ℕ) → Ok behind ≡ scanned 0 ts → None ≡ position lacks_code ts
none_found ts behind e = none_by (is_within ts) (position_or_len lacks_code ts) behind (e ∙ scan_places ts 0)
