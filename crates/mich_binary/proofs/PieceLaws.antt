-- The pieces between spaces, one by one, and annotations.
use Rattle.std.proofs.Common.{◌≡◌, ℕ, suc, ◌+◌, List, [], ◌∷◌, ◌++◌, Bool, true, false, cond, ◌&&◌, not, length, take, drop, Option, Some, None, Ok, refl, sym, ap, ◌∙◌, arith, nat_eq}
use Rattle.std.specs.List.{prefix_len, list_all}
use Rattle.std.specs.Borrow.{Bor}
use Rattle.std.proofs.lemmas.List.{append-nil, nil_from_length}
use Rattle.std.proofs.lemmas.List.Folds.{list_all-append}
use Rattle.rules_text.specs.declared.binary.DecodeKind.TheVariants.{BadString}
use Rattle.rules_text.specs.binary.Reading.{Spot, fault, pieces, before, is_annotation, annotations_of}
use Rattle.mich_binary.specs.Pieces.{is_no_space, pieces_of}

-- what stands behind the first byte
abbrev pub behind : List ℕ → Option (List ℕ)
behind [] = None
behind (b ∷ bs) = Some bs

cut_by : (b : ℕ) (bs : List ℕ) (n : ℕ) (space : Bool) → pieces bs ≡ take n bs ∷ pieces_of (behind (drop n bs))
    → cond space ([] ∷ pieces bs) (before b (pieces bs)) ≡ take (cond (not space) (1 + n) 0) (b ∷ bs) ∷ pieces_of (behind (drop (cond (not space) (1 + n) 0) (b ∷ bs)))
cut_by b bs n true e = refl
cut_by b bs n false e =
    let k : 1 + n ≡ suc n = omega arith in
    rw (e, k) refl

-- the pieces of bytes: up to the first space, and of what stands behind it
pub cut_at : (bs : List ℕ) → pieces bs ≡ take (prefix_len is_no_space bs) bs ∷ pieces_of (behind (drop (prefix_len is_no_space bs) bs))
cut_at [] = refl
cut_at (b ∷ bs) = cut_by b bs (prefix_len is_no_space bs) (nat_eq b 32) (cut_at bs)

-- what is cut off, where no space stands behind it
pub cut_end : (bs piece rest : List ℕ) (n : ℕ) → n ≡ prefix_len is_no_space bs → piece ≡ take n bs → rest ≡ drop n bs → length rest ≡ 0 → pieces bs ≡ piece ∷ []
cut_end bs piece rest n n-is piece-is rest-is none =
    let nothing : drop (prefix_len is_no_space bs) bs ≡ [] = ap (λ k. drop k bs) (sym n-is) ∙ sym rest-is ∙ nil_from_length rest none in
    cut_at bs ∙ rw (nothing, piece-is, n-is) refl

-- what is cut off, and what stands behind the space
pub cut_more : (bs piece rest next : List ℕ) (n b : ℕ) → n ≡ prefix_len is_no_space bs → piece ≡ take n bs → rest ≡ drop n bs → rest ≡ b ∷ next → pieces bs ≡ piece ∷ pieces next
cut_more bs piece rest next n b n-is piece-is rest-is first =
    let more : drop (prefix_len is_no_space bs) bs ≡ b ∷ next = ap (λ k. drop k bs) (sym n-is) ∙ sym rest-is ∙ first in
    cut_at bs ∙ rw (more, piece-is, n-is) refl

and_false : (a b : Bool) → b ≡ false → a && b ≡ false
and_false true b e = e
and_false false b e = refl

-- a piece that is no annotation
pub refused : (s : Spot) (texts : List (List ℕ)) (p : List ℕ) (more : List (List ℕ)) → texts ++ (p ∷ more) ≡ pieces s.left → is_annotation p ≡ false → annotations_of s ≡ fault BadString s.place
refused s texts p more e bad =
    let none_of : list_all is_annotation (pieces s.left) ≡ false =
    ap (list_all is_annotation) (sym e) ∙ list_all-append is_annotation texts (p ∷ more) ∙ and_false (list_all is_annotation texts) _ (ap (λ b. b && list_all is_annotation more) bad) in
    rw none_of refl

-- all pieces are annotations
pub accepted : (s : Spot) (texts : List (List ℕ)) → texts ++ [] ≡ pieces s.left → list_all is_annotation texts ≡ true → annotations_of s ≡ Ok texts
accepted s texts e good =
    let same : pieces s.left ≡ texts = sym e ∙ append-nil texts in
    rw (same, good) refl

-- one more annotation
pub one_more : (texts : List (List ℕ)) (p : List ℕ) → list_all is_annotation texts ≡ true → is_annotation p ≡ true → list_all is_annotation (texts ++ p ∷ []) ≡ true
one_more texts p good next = list_all-append is_annotation texts (p ∷ []) ∙ rw (good, next) refl

-- how much is left to cut
abbrev pub cut_size : Option (Bor (List ℕ)) → ℕ
cut_size None = 0
cut_size (Some b) = 1 + length b.now
