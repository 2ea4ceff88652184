-- A statement has at most as many nodes as bytes.
use Rattle.std.proofs.Common.{◌+◌, ◌<◌, ◌≤◌, ℕ, List, length, drop, arith}
use Rattle.std.proofs.lemmas.List.{length-drop}
use Rattle.rules_text.specs.nodes.Tree.{Tree, size}
use Rattle.mich_text.proofs.ForCallers.{gap_le, stands_fits}
use Rattle.rules_files.specs.commands.Places.{IsNodeAt}

size_some : (t : Tree) → 1 ≤ size t
size_some (Tree.int n) = omega arith
size_some (Tree.str s) = omega arith
size_some (Tree.bytes b) = omega arith
size_some (Tree.prim name annots ts) = omega arith
size_some (Tree.seq ts) = omega arith

-- so the place behind it is further
pub further : (file : List ℕ) (place : ℕ) (tree : Tree) (first behind : ℕ) → place ≤ length file → IsNodeAt file place tree first behind →
    (place < behind) × (size tree + place ≤ behind) × (behind ≤ length file)
further file place tree first behind within node =
    let stands = node.2.stands in
    let begins : node.0 ≤ length (drop place file) = omega (arith, stands.start_is, gap_le (drop place file) stands.first stands.begins) in
    let fits : size tree + place ≤ behind =
    omega (arith, stands_fits (drop place file) tree node.0 node.1 stands, begins, length-drop place file, within, node.4) in
    (omega (arith, size_some tree, fits), fits, omega (arith, node.4))
