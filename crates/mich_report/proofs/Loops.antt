-- What is written one after another.
use Rattle.std.proofs.Common.{◌≡◌, ◌≤◌, ◌<◌, ◌+◌, ℕ, Bool, true, List, [], ◌∷◌, ◌++◌, drop, get_or, length, map, refl, sym, ap, ◌∙◌, append-nil, append_assoc}
use Rattle.std.proofs.Math.ListN.{drop_of_length-le}
use Rattle.std.proofs.lemmas.List.{at_drop_more}
use Rattle.rules_text.specs.nodes.Tree.{Tree, Trees, none, more, seq, trees_of}
use Rattle.rules_text.specs.text.Printed.{printed, elements_text}
use Rattle.rules_world.specs.lines.Nodes.{change_node, effect_node, sequence}
use Rattle.mich_base.specs.View.{tree, trees}
use Rattle.mich_base.specs.declared.node.Node.{Node}
use Rattle.mich_ops.specs.View.{change, effect, status}
use Rattle.mich_ops.specs.declared.receipt.Effect.{Effect}
use Rattle.mich_ops.specs.declared.receipt.Status.{Status}
use Rattle.mich_term.specs.declared.ticket.Change.{Change}
use Rattle.mich_text.specs.Line.{joined}
use Rattle.mich_report.specs.Pieces.{separator}
use Rattle.mich_report.specs.Told.{told_status_node}

abbrev pub change_trees : List Change → List Tree
change_trees cs = map change_node (map change cs)

abbrev pub effect_trees : List Effect → List Tree
effect_trees es = map effect_node (map effect es)

abbrev pub status_trees : List Status → List Tree
status_trees ss = map told_status_node (map status ss)

-- all nodes are written
pub all_written : {X : Type 0} (f : List X → List Tree) (nodes : List Node) (i : ℕ) (items whole : List X) → f [] ≡ []
    → map tree nodes ++ f (drop i items) ≡ f items → length items ≤ i → items ≡ whole → seq (trees nodes) ≡ sequence (f whole)
all_written f nodes i items whole nothing h past same =
    ap (λ ts. seq (trees_of ts))
    (sym (append-nil (map tree nodes)) ∙ ap (λ ts. map tree nodes ++ ts) (sym nothing) ∙ ap (λ xs. map tree nodes ++ f xs) (sym (drop_of_length-le items past)) ∙ h ∙ ap f same)

-- elements behind the sign
joined_rest : (ts : Trees) → joined (separator true) ts ≡ elements_text ts
joined_rest none = refl
joined_rest (more t ts) = refl

-- one more is put, and the sign stands before the next
pub each_next : {X Y : Type 0} (g : X → Y) (h : Y → Tree) (line put next whole : List ℕ) (begun : Bool) (items : List X) (i : ℕ) (x : X)
    → i < length items → x ≡ get_or items i x → put ≡ line ++ separator begun → next ≡ put ++ printed (h (g x))
    → line ++ joined (separator begun) (trees_of (map h (map g (drop i items)))) ≡ whole
    → next ++ joined (separator true) (trees_of (map h (map g (drop (i + 1) items)))) ≡ whole
each_next {X} g h line put next whole begun items i x within is p q so_far =
    let rest = drop (i + 1) items in
    let text = elements_text (trees_of (map h (map g rest))) in
    let left = λ (xs : List X). line ++ joined (separator begun) (trees_of (map h (map g xs))) in
    ap (λ (t : List ℕ). next ++ t) (joined_rest (trees_of (map h (map g rest))))
    ∙ ap (λ (t : List ℕ). t ++ text) (q ∙ ap (λ (t : List ℕ). t ++ printed (h (g x))) p)
    ∙ append_assoc (line ++ separator begun) (printed (h (g x))) text
    ∙ append_assoc line (separator begun) (printed (h (g x)) ++ text)
    ∙ ap (λ (y : X). left (y ∷ rest)) is
    ∙ sym (at_drop_more left items i x within)
    ∙ so_far
