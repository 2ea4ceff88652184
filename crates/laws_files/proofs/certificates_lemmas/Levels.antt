-- The levels of certificates.
use Rattle.std.proofs.Common.{◌≡◌, ℕ, ◌≤◌, ◌+◌, Bool, true, false, cond, Some, None, List, [], ◌∷◌, refl, sym, subst, arith}
use Rattle.std.specs.Prelude.{max, length}
use Rattle.std.specs.List.{list_all}
use Rattle.std.proofs.lemmas.Bool.{and_parts}
use Rattle.std.proofs.lemmas.Bool.Decides.{nat_tests}
use Rattle.rules_text.specs.nodes.Limits.{depth_limit, statement_limit}
use Rattle.rules_text.specs.nodes.Tree.{Tree, seq, depth, depths}
use Rattle.rules_text.specs.text.Printed.{printed}
use Rattle.rules_data.specs.types.Kind.{Kind}
use Rattle.rules_data.specs.types.Printing.{node_of}
use Rattle.rules_code.specs.certificates.Derivation.{Entry, before, end, failing, derivation}
use Rattle.rules_code.specs.certificates.Certificates.{stack_nodes, entry_node, entry_nodes, certificate, certified, certifying, is_flat, deep_entry}
use Rattle.laws_files.proofs.certificates_lemmas.Certified.{known}

both : (a b n : ℕ) → a ≤ n → b ≤ n → max a b ≤ n
both a b n h i = omega (arith, h, i)

stack_levels : (A : List Kind) → list_all is_flat A ≡ true → depths (stack_nodes A) ≤ 990
stack_levels [] h = omega arith
stack_levels (a ∷ A) h =
    let hs : (is_flat a ≡ true) × (list_all is_flat A ≡ true) = and_parts _ _ h in
    let head : depth (node_of a) ≤ 990 = grind (arith, nat_tests) in
    both (depth (node_of a)) (depths (stack_nodes A)) 990 head (stack_levels A hs.1)

-- an entry of a flat stack
flat_stack : (A : List Kind) → list_all is_flat A ≡ true → depth (seq (stack_nodes A)) ≤ 991
flat_stack A h = let l = stack_levels A h in omega (arith, l)

entry_levels : (n : ℕ) → n ≤ 991 → max 1 (max n 0) + 1 ≤ 992
entry_levels n h = omega (arith, h)

-- the levels of an entry with a stack, before others
stack_then : (e : Entry) (A : List Kind) (es : List Entry) (l : ℕ) → depth (entry_node e) ≡ max 1 (max (depth (seq (stack_nodes A))) 0) + 1
    → (deep_entry es ≡ None → depths (entry_nodes es) ≤ 992)
    → (b : Bool) → list_all is_flat A ≡ b → cond b (deep_entry es) (Some l) ≡ None → max (depth (entry_node e)) (depths (entry_nodes es)) ≤ 992
stack_then e A es l d next true f h =
    let top : depth (entry_node e) ≤ 992 = subst (λ n. n ≤ 992) (sym d) (entry_levels (depth (seq (stack_nodes A))) (flat_stack A f)) in
    both (depth (entry_node e)) (depths (entry_nodes es)) 992 top (next h)
stack_then e A es l d next false f h = absurd cc

pub entries_levels : (es : List Entry) → deep_entry es ≡ None → depths (entry_nodes es) ≤ 992
entries_levels [] h = omega arith
entries_levels (before l A ∷ es) h = stack_then (before l A) A es l refl (λ g. entries_levels es g) (list_all is_flat A) refl h
entries_levels (end l A ∷ es) h = stack_then (end l A) A es l refl (λ g. entries_levels es g) (list_all is_flat A) refl h
entries_levels (failing l ∷ es) h = both 2 (depths (entry_nodes es)) 992 (omega arith) (entries_levels es h)

whole_levels : (s e : ℕ) → s ≤ 998 → e ≤ 992 → max s (max (e + 1) 0) + 1 ≤ 1000
whole_levels s e h i = omega (arith, h, i)

pub readable : (t n : Tree) → certifying t ≡ certified n → (depth n ≤ depth_limit) × (length (printed n) ≤ statement_limit)
readable t n e =
    let k = known t n e in
    let levels : depth t ≤ 998 = (let l = k.levels in grind (arith, nat_tests)) in
    let short : length (printed (certificate t)) ≤ statement_limit = (let l = k.short in grind (arith, nat_tests)) in (
      subst (λ m. depth m ≤ depth_limit) (sym k.whole) (whole_levels (depth t) (depths (entry_nodes (derivation t))) levels (entries_levels (derivation t) k.flat)),
      subst (λ m. length (printed m) ≤ statement_limit) (sym k.whole) short,
    )
