-- The code's stack, whose innermost node is its last.
use Rattle.std.proofs.Common.{◌≡◌, ℕ, suc, ◌+◌, ◌<◌, List, [], ◌∷◌, ◌++◌, length, get_or, set, take, drop, map, reverse, refl, sym, ap, ◌∙◌, arith, drop-cons}
use Rattle.std.proofs.lemmas.List.{map_push, set_split, take-append-drop, drop_all, reverse-append}
use Rattle.rules_text.specs.nodes.Tree.{Tree}
use Rattle.mich_text.specs.Machine.{Frame, elements, named, paren, Stack, add, put_annotation, go_on}
use Rattle.mich_text.specs.Nodes.{frame_view, stack_view}
use Rattle.mich_text.specs.declared.parser.Frame.{Frame as CodeFrame}

pub stack_push : (xs : List CodeFrame) (x : CodeFrame) → stack_view (xs ++ x ∷ []) ≡ frame_view x ∷ stack_view xs
stack_push xs x = ap reverse (map_push frame_view xs x) ∙ reverse-append (map frame_view xs) (frame_view x ∷ [])

pub add_top : (x : Tree) (f g : Frame) (s : Stack) → g ∷ [] ≡ add x (f ∷ []) → g ∷ s ≡ add x (f ∷ s)
add_top x (elements b es r) g s e = cc
add_top x (named w n ns xs) g s e = cc
add_top x paren g s e = cc

pub set_last : (xs : List CodeFrame) (n : ℕ) (x y : CodeFrame) → n + 1 ≡ length xs → x ≡ get_or xs n x
    → (xs ≡ take n xs ++ x ∷ []) × (set xs n y ≡ take n xs ++ y ∷ [])
set_last xs n x y e f =
    let lt : n < length xs = omega arith in
    let none : drop (suc n) xs ≡ [] = drop_all (suc n) xs (omega arith) in
    let one : drop n xs ≡ x ∷ [] = drop-cons xs n x lt ∙ rw (none, ← f) refl in
    (sym (take-append-drop n xs) ∙ ap (λ l. take n xs ++ l) one, set_split xs n y lt ∙ ap (λ l. take n xs ++ y ∷ l) none)

pub add_last : (t : Tree) (xs : List CodeFrame) (n : ℕ) (x y : CodeFrame) → n + 1 ≡ length xs → x ≡ get_or xs n x
    → frame_view y ∷ [] ≡ add t (frame_view x ∷ []) → stack_view (set xs n y) ≡ add t (stack_view xs)
add_last t xs n x y e f h =
    let p = set_last xs n x y e f in
    ap stack_view p.1 ∙ stack_push (take n xs) y ∙ add_top t (frame_view x) (frame_view y) (stack_view (take n xs)) h
    ∙ sym (ap (add t) (ap stack_view p.0 ∙ stack_push (take n xs) x))

-- a change of the innermost open node alone
pub change_last : (F : Stack → Stack) → ((f g : Frame) (s : Stack) → g ∷ [] ≡ F (f ∷ []) → g ∷ s ≡ F (f ∷ s))
    → (xs : List CodeFrame) (n : ℕ) (x y : CodeFrame) → n + 1 ≡ length xs → x ≡ get_or xs n x → frame_view y ∷ [] ≡ F (frame_view x ∷ [])
    → stack_view (set xs n y) ≡ F (stack_view xs)
change_last F top xs n x y e f h =
    let p = set_last xs n x y e f in
    ap stack_view p.1 ∙ stack_push (take n xs) y ∙ top (frame_view x) (frame_view y) (stack_view (take n xs)) h
    ∙ sym (ap F (ap stack_view p.0 ∙ stack_push (take n xs) x))

pub annotation_top : (a : List ℕ) (f g : Frame) (s : Stack) → g ∷ [] ≡ put_annotation a (f ∷ []) → g ∷ s ≡ put_annotation a (f ∷ s)
annotation_top a (elements b es r) g s e = cc
annotation_top a (named w n ns xs) g s e = cc
annotation_top a paren g s e = cc

pub go_on_top : (f g : Frame) (s : Stack) → g ∷ [] ≡ go_on (f ∷ []) → g ∷ s ≡ go_on (f ∷ s)
go_on_top (elements b es r) g s e = cc
go_on_top (named w n ns xs) g s e = cc
go_on_top paren g s e = cc
