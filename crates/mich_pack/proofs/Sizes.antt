-- A node whose names have codes, and whose binary form is short, is encoded.
use Rattle.std.proofs.Common.{◌≡◌, ℕ, ◌+◌, ◌<◌, ◌≤◌, ◌^◌, List, false, length, None, Ok, Err, refl, sym, ap, ◌∙◌, arith, nat_lt}
use Rattle.std.specs.List.{position}
use Rattle.std.proofs.lemmas.Bool.Decides.{nat_tests}
use Rattle.rules_text.specs.nodes.Limits.{encoded_limit, byte_limit}
use Rattle.rules_text.specs.nodes.Tree.{Tree, int, str, bytes, prim, seq, Trees, none, more, size, sizes, preorder, preorders}
use Rattle.rules_text.specs.binary.Spelling.{spelling}
use Rattle.rules_text.specs.binary.Encoding.{Refusal, lacks_code, encoded_by, encoded}
use Rattle.mich_binary.specs.Scanning.{scanned}
use Rattle.mich_binary.proofs.ForCallers.{onward, scan_append, none_found}
use Rattle.laws_data.proofs.binary_lemmas.ForCallers.{half_as_many}
use Rattle.laws_typing.specs.packing.Names.{HasCodes, HaveCodes}

pub node_is_small : (t : Tree) → length (spelling t) + 1 ≤ byte_limit → size t < 2 ^ 32
node_is_small t short = omega (arith, half_as_many t, short)

mutual
  scan_node : (t : Tree) → HasCodes t → (at : ℕ) → scanned at (preorder t) ≡ Ok (at + size t)
  scan_node (int n) h at = refl
  scan_node (str s) h at = refl
  scan_node (bytes b) h at = refl
  scan_node (prim name annots args) h at = rw h.0 (scan_nodes args h.1 (at + 1) ∙ ap Ok (omega arith))
  scan_node (seq ts) h at = scan_nodes ts h (at + 1) ∙ ap Ok (omega arith)

  scan_nodes : (ts : Trees) → HaveCodes ts → (at : ℕ) → scanned at (preorders ts) ≡ Ok (at + sizes ts)
  scan_nodes none h at = ap Ok (omega arith)
  scan_nodes (more t ts) h at =
      scan_append (preorder t) (preorders ts) at ∙ ap (onward (preorders ts)) (scan_node t h.0 at)
      ∙ scan_nodes ts h.1 (at + size t) ∙ ap Ok (omega arith)

all_coded : (t : Tree) → HasCodes t → None ≡ position lacks_code (preorder t)
all_coded t h = none_found (preorder t) (0 + size t) (sym (scan_node t h 0))

encoded_is : (t : Tree) → HasCodes t → length (spelling t) + 1 ≤ byte_limit → encoded t ≡ Ok (spelling t)
unfolding encoded
encoded_is t h short =
    let fits : nat_lt encoded_limit (length (spelling t)) ≡ false = grind (arith, nat_tests) in
    ap (λ o. encoded_by o t) (sym (all_coded t h)) ∙ rw fits refl

pub is_written : (t : Tree) (b : List ℕ) → HasCodes t → length (spelling t) + 1 ≤ byte_limit → encoded t ≡ Ok b → b ≡ spelling t
is_written t b h short e = let same = sym e ∙ encoded_is t h short in cc

pub is_not_refused : (t : Tree) (r : Refusal) → HasCodes t → length (spelling t) + 1 ≤ byte_limit → encoded t ≡ Err r → ⊥
is_not_refused t r h short e = let same = sym e ∙ encoded_is t h short in cc
