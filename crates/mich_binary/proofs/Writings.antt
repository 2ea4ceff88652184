-- Writing part by part.
use Rattle.std.proofs.Common.{◌≡◌, ℕ, suc, ◌+◌, ◌-◌, ◌<◌, ◌≤◌, List, [], ◌∷◌, ◌++◌, false, cond, length, set, Result, Ok, Err, refl, sym, ap, ◌∙◌, arith, append_assoc, length-append, get_or, drop}
use Rattle.std.specs.Prelude.{ℤ, pos, negsuc, int_lt, unsigned_abs}
use Rattle.std.specs.Int.{w32, to_be_bytes}
use Rattle.std.proofs.lemmas.Bool.Decides.{nat_tests}
use Rattle.std.proofs.lemmas.List.{append-nil, at_drop_more}
use Rattle.rules_text.specs.binary.Spelling.{signed_groups, integer, field, joined, short, application, spelling, spellings}
use Rattle.mich_base.specs.View.{tree, trees}
use Rattle.mich_base.specs.declared.node.Node.{Node}
use Rattle.mich_binary.specs.declared.errors.EncodeError.{EncodeError}
use Rattle.mich_binary.specs.declared.errors.EncodeError.TheVariants as encodes
use Rattle.mich_binary.specs.Results.{IsWritten, Overflows}

pub integer_is : (z : ℤ) → integer z ≡ signed_groups (cond (int_lt z (pos 0)) 64 0) (unsigned_abs z)
unfolding integer
integer_is (pos n) = let no : int_lt (pos n) (pos 0) ≡ false = grind (arith, nat_tests) in rw no refl
integer_is (negsuc n) = refl

-- more is refused where less is
pub more_overflows : (e : EncodeError) (n m k l : ℕ) → n + m ≤ k + l → Overflows n m e → Overflows k l e
more_overflows encodes.Memory n m k l h o = tt
more_overflows encodes.TooLong n m k l h o = omega (arith, o)
more_overflows (encodes.NoCode location) n m k l h o = absurd o

-- a second part behind the first
pub both : {U : Type 0} (a b c x y : List ℕ) (r : Result U EncodeError) → b ≡ a ++ x → IsWritten b c y r → IsWritten a c (x ++ y) r
both a b c x y (Ok u) e w = (w.0 ∙ ap (λ (t : List ℕ). t ++ y) e ∙ append_assoc a x y, w.1)
both a b c x y (Err err) e w = more_overflows err (length b) (length y) (length a) (length (x ++ y)) (omega (arith, length-append x y, ap length e, length-append a x)) w

pub length_field : (content : List ℕ) → length (field content) ≡ 4 + length content
unfolding field
length_field content = length-append (to_be_bytes w32 (length content)) content

-- texts with a space before each
abbrev pub spaced : List (List ℕ) → List ℕ
spaced [] = []
spaced (t ∷ ts) = 32 ∷ t ++ spaced ts

pub joined_is : (t : List ℕ) (ts : List (List ℕ)) → joined (t ∷ ts) ≡ t ++ spaced ts
joined_is t [] = sym (append-nil t)
joined_is t (u ∷ us) = ap (λ (r : List ℕ). t ++ (32 ∷ r)) (joined_is u us)

-- four bytes in place of four others
patched : (front content : List ℕ) (s a b c d : ℕ) → s ≡ length front
    → set (set (set (set (front ++ (0 ∷ 0 ∷ 0 ∷ 0 ∷ content)) s a) (s + 1) b) (s + 2) c) (s + 3) d ≡ front ++ (a ∷ b ∷ c ∷ d ∷ content)
patched [] content s a b c d e = rw e refl
patched (x ∷ front) content s a b c d e =
    let t = length front in
    let e0 : s ≡ suc t = omega (arith, e) in
    let e1 : suc t + 1 ≡ suc (t + 1) = omega arith in
    let e2 : suc t + 2 ≡ suc (t + 2) = omega arith in
    let e3 : suc t + 3 ≡ suc (t + 3) = omega arith in
    rw (e0, e1, e2, e3) (ap (λ (r : List ℕ). x ∷ r) (patched front content t a b c d refl))

pub patched_field : (front content : List ℕ) (s : ℕ) → s ≡ length front → (bytes : List ℕ) → bytes ≡ to_be_bytes w32 (length content)
    → set (set (set (set (front ++ (0 ∷ 0 ∷ 0 ∷ 0 ∷ content)) s (get_or bytes 0 0)) (s + 1) (get_or bytes 1 0)) (s + 2) (get_or bytes 2 0)) (s + 3) (get_or bytes 3 0) ≡ front ++ field content
unfolding field
patched_field front content s e bytes is = rw is (patched front content s _ _ _ _ e)

-- an application by how many arguments it has
pub no_argument : (code k : ℕ) (args notes : List ℕ) → k ≡ 0 → application code k args notes ≡ short 3 code args notes
unfolding application
no_argument code k args notes e = rw e refl

pub one_argument : (code k : ℕ) (args notes : List ℕ) → k ≡ 1 → application code k args notes ≡ short 5 code args notes
unfolding application
one_argument code k args notes e = rw e refl

pub two_arguments : (code k : ℕ) (args notes : List ℕ) → k ≡ 2 → application code k args notes ≡ short 7 code args notes
unfolding application
two_arguments code k args notes e = rw e refl

pub many_arguments : (code k : ℕ) (args notes : List ℕ) → 3 ≤ k → application code k args notes ≡ (9 ∷ code ∷ field args) ++ field notes
unfolding application
many_arguments code k args notes h = let e : k ≡ suc (suc (suc (k - 3))) = omega arith in rw e refl

-- one more node
pub one_more : (xs : List Node) (i : ℕ) (x : Node) → i < length xs → x ≡ get_or xs i x → spellings (trees (drop i xs)) ≡ spelling (tree x) ++ spellings (trees (drop (i + 1) xs))
one_more xs i x h e = at_drop_more (λ ns. spellings (trees ns)) xs i x h ∙ ap (λ y. spelling (tree y) ++ spellings (trees (drop (i + 1) xs))) (sym e)

-- a part of what is still to be written is refused
pub part_overflows : (e : EncodeError) (out old part rest left all : List ℕ) → out ++ left ≡ old ++ all → left ≡ part ++ rest → Overflows (length out) (length part) e → Overflows (length old) (length all) e
part_overflows e out old part rest left all parts is o =
    more_overflows e (length out) (length part) (length old) (length all) (omega (arith, ap length parts, ap length is, length-append out left, length-append old all, length-append part rest)) o
