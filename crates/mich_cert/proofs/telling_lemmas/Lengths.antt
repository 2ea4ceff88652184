-- How many bytes texts have.
use Rattle.std.proofs.Common.{◌≡◌, ℕ, ◌+◌, List, [], ◌∷◌, ◌++◌, length, map, refl, sym, ap, ◌∙◌, arith, length-append}
use Rattle.std.proofs.lemmas.List.{append-nil}
use Rattle.hex.specs.Hex.{encode_with}
use Rattle.rules_text.specs.nodes.Tree.{Tree, seq, Trees, more, trees_of}
use Rattle.rules_text.specs.text.Printed.{printed, elements_text}
use Rattle.rules_data.specs.types.Kind.{Kind}
use Rattle.rules_data.specs.types.Printing.{node_of}
use Rattle.rules_code.specs.certificates.Certificates.{stack_nodes}

pub digits : (t bs : List ℕ) → length (encode_with t bs) ≡ length bs + length bs
unfolding encode_with
digits t [] = refl
digits t (b ∷ bs) = let h = digits t bs in omega (arith, h)

-- elements with their signs are one byte less than the sequence of them
pub sequence_length : (x : Tree) (xs : Trees) → length (printed (seq (more x xs))) ≡ 1 + length (elements_text (more x xs))
sequence_length x xs =
    let e = length-append (printed x) (elements_text xs ++ 32 ∷ 125 ∷ []) in
    let f = length-append (elements_text xs) (32 ∷ 125 ∷ []) in
    let g = length-append (printed x) (elements_text xs) in
    omega (arith, e, f, g)

pub stack_list : (A : List Kind) → stack_nodes A ≡ trees_of (map node_of A)
stack_list [] = refl
stack_list (a ∷ A) = ap (more (node_of a)) (stack_list A)

-- the nodes of all types, where none is left
pub stack_whole : (xs : List Tree) (A B : List Kind) → xs ++ map node_of B ≡ map node_of A → B ≡ [] → trees_of xs ≡ stack_nodes A
stack_whole xs A B h e =
    ap trees_of (sym (append-nil xs) ∙ ap (λ C. xs ++ map node_of C) (sym e) ∙ h) ∙ sym (stack_list A)
