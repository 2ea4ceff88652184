-- What entries take at least on a line.
use Rattle.std.proofs.Common.{◌≡◌, ℕ, ◌+◌, ◌≤◌, List, [], ◌∷◌, ◌++◌, length, arith, length-append}
use Rattle.std.specs.Prelude.{pos}
use Rattle.std.specs.Fmt.{signed_decimal}
use Rattle.rules_text.specs.nodes.Tree.{Tree, seq, Trees, none, more}
use Rattle.rules_text.specs.text.Printed.{printed, in_parens, is_wrapped, elements_text}
use Rattle.rules_data.specs.types.Kind.{Kind}
use Rattle.rules_data.specs.types.Printing.{node_of}
use Rattle.rules_code.specs.certificates.Certificates.{stack_nodes, entry_node, entry_nodes, certified_node}
use Rattle.rules_code.specs.certificates.Derivation.{Entry, before, end, failing}
use Rattle.mich_cert.specs.telling.Length.{stack_weight}
use Rattle.mich_cert.specs.telling.Told.{weight, weights}
use Rattle.mich_cert.proofs.telling_lemmas.Lengths.{sequence_length}

elements_more : (x : Tree) (xs : Trees) → length (elements_text (more x xs)) ≡ 3 + length (printed x) + length (elements_text xs)
elements_more x xs = let e = length-append (printed x) (elements_text xs) in omega (arith, e)

in_sequence : (ts : Trees) → length (elements_text ts) ≤ length (printed (seq ts))
in_sequence none = omega arith
in_sequence (more x xs) = let e = sequence_length x xs in omega (arith, e)

stack_text : (A : List Kind) → stack_weight A ≤ length (elements_text (stack_nodes A))
stack_text [] = omega arith
stack_text (a ∷ A) =
    let e = elements_more (node_of a) (stack_nodes A) in
    let h = stack_text A in
    omega (arith, e, h)

-- arguments that end with a sequence
last_argument : (name text : List ℕ) (ts : Trees) → length (printed (seq ts)) ≤ length (name ++ ([] ++ (32 ∷ (text ++ (32 ∷ (printed (seq ts) ++ []))))))
last_argument name text ts =
    let e = length-append name (32 ∷ (text ++ (32 ∷ (printed (seq ts) ++ [])))) in
    let f = length-append text (32 ∷ (printed (seq ts) ++ [])) in
    let g = length-append (printed (seq ts)) [] in
    omega (arith, e, f, g)

entry_text : (e : Entry) → weight e ≤ 3 + length (printed (entry_node e))
entry_text (before l A) =
    let h = stack_text A in
    let g = in_sequence (stack_nodes A) in
    let k = last_argument (65 ∷ 116 ∷ []) (signed_decimal (pos l)) (stack_nodes A) in
    omega (arith, h, g, k)
entry_text (end l A) =
    let h = stack_text A in
    let g = in_sequence (stack_nodes A) in
    let k = last_argument (69 ∷ 110 ∷ 100 ∷ []) (signed_decimal (pos l)) (stack_nodes A) in
    omega (arith, h, g, k)
entry_text (failing l) = omega arith

entries_text : (es : List Entry) → weights es ≤ length (elements_text (entry_nodes es))
entries_text [] = omega arith
entries_text (e ∷ es) =
    let f = elements_more (entry_node e) (entry_nodes es) in
    let g = entry_text e in
    let h = entries_text es in
    omega (arith, f, g, h)

pub weights_le : (t : Tree) (es : List Entry) → weights es ≤ length (printed (certified_node t es))
weights_le t es =
    let h = entries_text es in
    let g = in_sequence (entry_nodes es) in
    let k = last_argument (67 ∷ 101 ∷ 114 ∷ 116 ∷ 105 ∷ 102 ∷ 105 ∷ 101 ∷ 100 ∷ []) (in_parens (is_wrapped t) (printed t)) (entry_nodes es) in
    omega (arith, h, g, k)
