use Rattle.std.proofs.Common.{◌≡◌, List, ℕ, [], ◌∷◌, ◌++◌, ◌≤◌, ◌+◌, length, drop, ap, sym, subst, ◌∙◌, arith, append_assoc, length-append}
use Rattle.std.proofs.lemmas.Result.{err_from_is_err_and}
use Rattle.rules_text.specs.binary.Spelling.{field, count, spelling, spellings}
use Rattle.mich_base.specs.View.{tree, trees}
use Rattle.mich_binary.specs.Results.{IsWritten}
use Rattle.mich_binary.proofs.Levels.{count_is}
use Rattle.mich_binary.proofs.Writings.{more_overflows, length_field, no_argument, one_argument, two_arguments, many_arguments, one_more, part_overflows}
use Rattle.mich_binary.proofs.writing.+put.Goals as goal

pub put_parts-returns-in-0 : goal.put_parts-returns-in-0
put_parts-returns-in-0 t c =
    let args = c.args.args.now in
    subst (λ (added : List ℕ). IsWritten c.args.out.now.items c.put_short.new.out.items added c.put_short.result)
    (sym (no_argument c.args.code (count (trees args)) (spellings (trees args)) c.args.notes.now (count_is args ∙ sym c.len.ensures ∙ c.in-0.is))) c.put_short.ensures

pub put_parts-returns-in-1 : goal.put_parts-returns-in-1
put_parts-returns-in-1 t c =
    let args = c.args.args.now in
    subst (λ (added : List ℕ). IsWritten c.args.out.now.items c.put_short-in-1.new.out.items added c.put_short-in-1.result)
    (sym (one_argument c.args.code (count (trees args)) (spellings (trees args)) c.args.notes.now (count_is args ∙ sym c.len.ensures ∙ c.in-1.is))) c.put_short-in-1.ensures

pub put_parts-returns-in-2 : goal.put_parts-returns-in-2
put_parts-returns-in-2 t c =
    let args = c.args.args.now in
    subst (λ (added : List ℕ). IsWritten c.args.out.now.items c.put_short-in-2.new.out.items added c.put_short-in-2.result)
    (sym (two_arguments c.args.code (count (trees args)) (spellings (trees args)) c.args.notes.now (count_is args ∙ sym c.len.ensures ∙ c.in-2.is))) c.put_short-in-2.ensures

pub put_parts-returns-in_default : goal.put_parts-returns-in_default
put_parts-returns-in_default t c =
    let args = c.args.args.now in
    let enough : 3 ≤ count (trees args) = omega (arith, count_is args, c.len.ensures) in
    subst (λ (added : List ℕ). IsWritten c.args.out.now.items c.put_long.new.out.items added c.put_long.result)
    (sym (many_arguments c.args.code (count (trees args)) (spellings (trees args)) c.args.notes.now enough)) c.put_long.ensures

pub put_nodes_field-returns-in_err-put : goal.put_nodes_field-returns-in_err-put
put_nodes_field-returns-in_err-put t c =
    let p = err_from_is_err_and c.from_residual.result c.from_residual.ensures.1 in
    let old = c.args.out.now.items in
    let content = spellings (trees c.args.nodes.now) in
    rw (p.1, p.2) (more_overflows c.in_err-put.field-0.0 (length old) 4 (length old) (length (field content)) (omega (arith, length_field content)) c.in_err-put.ensures)

pub put_nodes_field-returns-in_err-put_nodes : goal.put_nodes_field-returns-in_err-put_nodes
put_nodes_field-returns-in_err-put_nodes t c =
    let p = err_from_is_err_and c.from_residual-in_err-put_nodes.result c.from_residual-in_err-put_nodes.ensures.1 in
    let old = c.args.out.now.items in
    let content = spellings (trees c.args.nodes.now) in
    rw (p.1, p.2) (more_overflows c.in_err-put_nodes.field-0.0 (length c.put.new.out.items) (length content) (length old) (length (field content))
    (omega (arith, length_field content, ap length c.in_ok-put.ensures.0, length-append old (0 ∷ 0 ∷ 0 ∷ 0 ∷ []))) c.in_err-put_nodes.ensures)

pub put_nodes_field-returns : goal.put_nodes_field-returns
put_nodes_field-returns t c =
    let old = c.args.out.now.items in
    let content = spellings (trees c.args.nodes.now) in
    let all : c.put_nodes.new.out.items ≡ old ++ (0 ∷ 0 ∷ 0 ∷ 0 ∷ content) =
    c.in_ok-put_nodes.ensures.0 ∙ ap (λ (r : List ℕ). r ++ content) c.in_ok-put.ensures.0 ∙ append_assoc old (0 ∷ 0 ∷ 0 ∷ 0 ∷ []) content in
    let is : c.set_length.new.out.items ≡ old ++ field content = c.set_length.ensures old content all (omega (arith, c.len-start.ensures)) in
    (is, omega (arith, ap length is, ap length all, length-append old (field content), length-append old (0 ∷ 0 ∷ 0 ∷ 0 ∷ content), length_field content, c.in_ok-put_nodes.ensures.1))

pub put_nodes-returns-in_err-put_node : goal.put_nodes-returns-in_err-put_node
put_nodes-returns-in_err-put_node t c =
    let p = err_from_is_err_and c.from_residual.result c.from_residual.ensures.1 in
    let items = c.as_slice-node-items.result.now in
    let i = c.loop-node.node-index in
    let n = c.node-item.result in
    rw (p.1, p.2) (part_overflows c.in_err-put_node.field-0.0 c.loop-node.out.items c.args.out.now.items (spelling (tree n)) (spellings (trees (drop (i + 1) items))) (spellings (trees (drop i items))) (spellings (trees c.args.nodes.now))
    c.loop-node.invariant.parts (one_more items i n (omega arith) c.node-item.is) c.in_err-put_node.ensures)
