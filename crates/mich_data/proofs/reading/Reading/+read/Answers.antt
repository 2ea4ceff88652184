use Rattle.std.proofs.Common.{◌≡◌, ◌+◌, List, None, option_map, sym, ap, ◌∙◌, subst, rules, arith}
use Rattle.rules_text.specs.nodes.Tree.{size, sizes}
use Rattle.rules_data.specs.types.Kind as k
use Rattle.rules_data.specs.values.Val.{list, set}
use Rattle.rules_data.specs.values.Literals.{good, mapped, with_pending, read, read_elements, read_increasing, read_entries, read_binding, read_rest, read_parts}
use Rattle.mich_base.specs.TypeView.{kind}
use Rattle.mich_base.specs.View.{tree, trees}
use Rattle.mich_data.specs.View.{all_pending}
use Rattle.mich_term.specs.View.{datum, datums}
use Rattle.mich_data.specs.Answers.{IsFault, told}
use Rattle.mich_data.specs.Wrapped.{wrapped}
use Rattle.mich_data.proofs.Places.{sizes_at, sizes_end}
use Rattle.mich_data.proofs.Lists.{elements_go, elements_fail, elements_done}
use Rattle.mich_data.proofs.Sets.{set_go, set_fail, set_out_of_order, set_done}
use Rattle.mich_data.proofs.Tables.{binding_go, binding_misfit, binding_second, entries_go, entries_fail, entries_done}
use Rattle.mich_data.proofs.Combs.{two_good, two_last_fault, more_first_fault, more_last_fault, more_good}
use Rattle.mich_data.proofs.Typed.{val_list, val_set, kind_pair, kind_list, kind_set, kind_map, kind_big_map}
use Rattle.mich_data.proofs.Steps.{mapped_good, at_kind, rest_at_kind}
use Rattle.mich_term.specs.ValueView.{vals}
use Rattle.mich_term.specs.declared.datum.Datum.{Datum}
use Rattle.mich_term.specs.declared.value.Value.{Value}
use Rattle.std.specs.List.{AllByRecursion}
use Rattle.mich_data.specs.Whole.{IsWhole}
use Rattle.mich_data.proofs.Whole.{values_whole, entries_whole, whole_at, list_whole}
use Rattle.mich_data.proofs.reading.Reading.+read.Goals as goal

pub read-returns-in-Pair-clause-found : goal.read-returns-in-Pair-clause-found
read-returns-in-Pair-clause-found t c =
    at_kind (kind c.args.ty.now) (k.pair (kind c.get-in-Pair.result.now) (kind c.get-in-Pair-2.result.now)) _ c.args.self.now c.read_pair.new.self _
    (ap kind c.in-Pair.is ∙ kind_pair c.in-Pair.first c.in-Pair.second ∙ sym (λ i. k.pair (kind (c.get-in-Pair.ensures i)) (kind (c.get-in-Pair-2.ensures i)))) c.read_pair.ensures.found

pub read-returns-in-List-clause-found : goal.read-returns-in-List-clause-found
read-returns-in-List-clause-found t c =
    at_kind (kind c.args.ty.now) (k.list (kind c.get-in-List.result.now)) _ c.args.self.now c.read_list.new.self _
    (ap kind c.in-List.is ∙ kind_list c.in-List.part ∙ sym (ap (λ x. k.list (kind x)) c.get-in-List.ensures)) c.read_list.ensures.found

pub read-returns-in-Set-clause-found : goal.read-returns-in-Set-clause-found
read-returns-in-Set-clause-found t c =
    at_kind (kind c.args.ty.now) (k.set (kind c.get-in-Set.result.now)) _ c.args.self.now c.read_set.new.self _
    (ap kind c.in-Set.is ∙ kind_set c.in-Set.part ∙ sym (ap (λ x. k.set (kind x)) c.get-in-Set.ensures)) c.read_set.ensures.found

pub read-returns-in-Map-clause-found : goal.read-returns-in-Map-clause-found
read-returns-in-Map-clause-found t c =
    at_kind (kind c.args.ty.now) (k.map (kind c.get-in-Map.result.now) (kind c.get-in-Map-2.result.now)) _ c.args.self.now c.read_map.new.self _
    (ap kind c.in-Map.is ∙ kind_map c.in-Map.key c.in-Map.value ∙ sym (λ i. k.map (kind (c.get-in-Map.ensures i)) (kind (c.get-in-Map-2.ensures i)))) c.read_map.ensures.found

pub read-returns-in-BigMap-clause-found : goal.read-returns-in-BigMap-clause-found
read-returns-in-BigMap-clause-found t c =
    at_kind (kind c.args.ty.now) (k.big_map (kind c.get-in-BigMap.result.now) (kind c.get-in-BigMap-2.result.now)) _ c.args.self.now c.read_big_map.new.self _
    (ap kind c.in-BigMap.is ∙ kind_big_map c.in-BigMap.key c.in-BigMap.value ∙ sym (λ i. k.big_map (kind (c.get-in-BigMap.ensures i)) (kind (c.get-in-BigMap-2.ensures i)))) c.read_big_map.ensures.found

pub read_rest-returns-in-Pair-clause-found : goal.read_rest-returns-in-Pair-clause-found
read_rest-returns-in-Pair-clause-found t c =
    rest_at_kind (kind c.args.ty.now) (k.pair (kind c.get.result.now) (kind c.get-in-Pair.result.now)) _ _ c.args.self.now c.read_parts.new.self _
    (ap kind c.in-Pair.is ∙ kind_pair c.in-Pair.first c.in-Pair.second ∙ sym (λ i. k.pair (kind (c.get.ensures i)) (kind (c.get-in-Pair.ensures i)))) c.read_parts.ensures.found

pub read_elements-returns-in_err-value-clause-found : goal.read_elements-returns-in_err-value-clause-found
read_elements-returns-in_err-value-clause-found t c =
    let fault : IsFault (with_pending (all_pending c.args.self.now.pending) (mapped list (read_elements (read (kind c.args.part.now)) c.args.self.now.next (trees c.args.nodes.now)))) c.in_err-value.field-0.0 =
    elements_fail _ _ _ c.loop-node-test.true c.node-item.is _ _ _ _ _ _ _ c.loop-node.invariant.0 c.in_err-value.ensures.found in
    search (rules, fault)

pub read_elements-loop-node-preserved : goal.read_elements-loop-node-preserved
read_elements-loop-node-preserved t c = (
  elements_go _ _ _ c.loop-node-test.true c.node-item.is _ _ _ _ _ _ _ _ _ c.loop-node.invariant.0 c.in_ok-value.ensures.found.0 c.in_ok-value.ensures.found.1 c.in_ok-push.ensures.pushed,
  sizes_at _ _ _ _ _ _ c.loop-node-test.true c.node-item.is c.loop-node.invariant.1 c.in_ok-value.ensures.found.1,
  values_whole (kind c.args.part.now) c.loop-node.values _ _ c.loop-node.invariant.2 c.in_ok-value.ensures.whole c.in_ok-push.ensures.pushed,
)

pub read_elements-returns-clause-found : goal.read_elements-returns-clause-found
read_elements-returns-clause-found t c = (
  elements_done _ _ c.loop-node-test.false _ _ _ _ _ _ c.loop-node.invariant.0 ∙ ap (λ x. good x (all_pending c.loop-node.self.pending)) (sym (val_list c.in_ok-new.field-0 ∙ ap (λ (vs : List Value). list (vals vs)) (c.in_ok-new.ensures ∙ c.from_rows.ensures))),
  sizes_end _ _ _ _ c.loop-node-test.false c.loop-node.invariant.1,
)

pub read_increasing-returns-in_err-value-clause-found : goal.read_increasing-returns-in_err-value-clause-found
read_increasing-returns-in_err-value-clause-found t c =
    let fault : IsFault (with_pending (all_pending c.args.self.now.pending) (mapped set (read_increasing (read (kind c.args.part.now)) None c.args.self.now.next (trees c.args.nodes.now)))) c.in_err-value.field-0.0 =
    set_fail _ _ _ c.loop-node-test.true c.node-item.is _ _ _ _ _ _ _ c.loop-node.invariant.0 c.in_err-value.ensures.found in
    search (rules, fault)

pub read_increasing-returns-in_err-element-clause-found : goal.read_increasing-returns-in_err-element-clause-found
read_increasing-returns-in_err-element-clause-found t c =
    let fault : IsFault (with_pending (all_pending c.args.self.now.pending) (mapped set (read_increasing (read (kind c.args.part.now)) None c.args.self.now.next (trees c.args.nodes.now)))) c.in_err-element.field-0.0 =
    set_out_of_order _ _ _ c.loop-node-test.true c.node-item.is _ _ _ _ _ _ _ _ _ _ c.loop-node.invariant.0 c.in_ok-value.ensures.found.0 c.last.ensures c.in_err-element.ensures in
    search (rules, fault)

pub read_increasing-loop-node-preserved : goal.read_increasing-loop-node-preserved
read_increasing-loop-node-preserved t c = (
  set_go _ _ _ c.loop-node-test.true c.node-item.is _ _ _ _ _ _ _ _ _ _ _ c.loop-node.invariant.0 c.in_ok-value.ensures.found.0 c.in_ok-value.ensures.found.1 c.last.ensures c.in_ok-element.ensures.0
      c.in_ok-element.ensures.1 c.in_ok-insert.ensures.added,
  sizes_at _ _ _ _ _ _ c.loop-node-test.true c.node-item.is c.loop-node.invariant.1 c.in_ok-value.ensures.found.1,
)

pub read_increasing-returns-clause-found : goal.read_increasing-returns-clause-found
read_increasing-returns-clause-found t c = (
  set_done _ _ c.loop-node-test.false _ _ _ _ _ _ c.loop-node.invariant.0 ∙ ap (λ x. good x (all_pending c.loop-node.self.pending)) (sym (val_set c.in_ok-new.field-0 ∙ ap (λ (ds : List Datum). set (datums ds)) c.in_ok-new.ensures)),
  sizes_end _ _ _ _ c.loop-node-test.false c.loop-node.invariant.1,
)

pub read_entries-returns-in_err-entry-clause-entries : goal.read_entries-returns-in_err-entry-clause-entries
read_entries-returns-in_err-entry-clause-entries t c =
    let fault : IsFault (with_pending (all_pending c.args.self.now.pending) (read_entries (read (kind c.args.key.now)) (read (kind c.args.value.now)) None c.args.self.now.next (trees c.args.nodes.now))) c.in_err-entry.field-0.0 =
    entries_fail _ _ _ c.loop-node-test.true c.node-item.is _ _ _ _ _ _ _ _ _ c.loop-node.invariant.0 c.last_key.ensures c.in_err-entry.ensures.entry in
    search (rules, fault)

pub read_entries-loop-node-preserved : goal.read_entries-loop-node-preserved
read_entries-loop-node-preserved t c = (
  entries_go _ _ _ c.loop-node-test.true c.node-item.is _ _ _ _ _ _ _ _ _ _ _ _ c.loop-node.invariant.0 c.in_ok-entry.ensures.entry.0 c.in_ok-entry.ensures.entry.1 c.in_ok-entry.ensures.behind
      c.last_key.ensures c.in_ok-insert.ensures.new,
  sizes_at _ _ _ _ _ _ c.loop-node-test.true c.node-item.is c.loop-node.invariant.1 c.in_ok-entry.ensures.entry.1,
  entries_whole (kind c.args.value.now) _ _ c.loop-node.entries _ c.loop-node.invariant.2 c.in_ok-entry.ensures.whole c.in_ok-insert.ensures.new,
)

pub read_entries-returns-clause-entries : goal.read_entries-returns-clause-entries
read_entries-returns-clause-entries t c =
    (entries_done _ _ c.loop-node-test.false _ _ _ _ _ _ _ c.loop-node.invariant.0, sizes_end _ _ _ _ c.loop-node-test.false c.loop-node.invariant.1)

pub read_binding-returns-clause-entry : goal.read_binding-returns-clause-entry
read_binding-returns-clause-entry t c = (
  binding_go (read (kind c.args.key.now)) (read (kind c.args.value.now)) (option_map (λ d. datum d.now) c.args.before) c.args.self.now.next (tree c.args.binding.0.now)
      (tree c.args.binding.1.now) (all_pending c.args.self.now.pending) _ _ _ _ _ _ c.in_ok-first.ensures.found.0 c.in_ok-first.ensures.found.1 c.in_ok-datum.ensures.0 c.in_ok-datum.ensures.1 c.in_ok-second.ensures.found.0,
  c.in_ok-second.ensures.found.1 ∙ ap (λ j. j + size (tree c.args.binding.1.now)) c.in_ok-first.ensures.found.1,
)

pub read_parts-returns-in_err-value-in-More-clause-found : goal.read_parts-returns-in_err-value-in-More-clause-found
read_parts-returns-in_err-value-in-More-clause-found t c =
    let fault : IsFault (with_pending (all_pending c.args.self.now.pending) (read_parts (read (kind c.args.first.now)) (read (kind c.args.second.now))
    (read_rest (kind c.args.second.now) c.args.whole) c.args.whole c.args.self.now.next (trees c.args.parts.now))) c.in_err-value-in-More.field-0.0 =
    more_first_fault (read (kind c.args.first.now)) (read (kind c.args.second.now)) (read_rest (kind c.args.second.now) c.args.whole) c.args.whole c.args.self.now.next c.args.parts.now
    c.in-More.part.now (all_pending c.args.self.now.pending) c.in-More.rest.now _ c.in-More.ensures.0 c.in-More.ensures.1 c.in_err-value-in-More.ensures.found in
    search (rules, fault)

pub read_parts-returns-in_err-behind-in-More-clause-found : goal.read_parts-returns-in_err-behind-in-More-clause-found
read_parts-returns-in_err-behind-in-More-clause-found t c =
    let fault : IsFault (with_pending (all_pending c.args.self.now.pending) (read_parts (read (kind c.args.first.now)) (read (kind c.args.second.now))
    (read_rest (kind c.args.second.now) c.args.whole) c.args.whole c.args.self.now.next (trees c.args.parts.now))) c.in_err-behind-in-More.field-0.0 =
    more_last_fault (read (kind c.args.first.now)) (read (kind c.args.second.now)) (read_rest (kind c.args.second.now) c.args.whole) c.args.whole c.args.self.now.next c.args.parts.now
    c.in-More.part.now (all_pending c.args.self.now.pending) c.in-More.rest.now _ _ _ _ c.in-More.ensures.0 c.in-More.ensures.1 c.in_ok-value-in-More.ensures.found.0 c.in_ok-value-in-More.ensures.found.1
    c.in_err-behind-in-More.ensures.found in
    search (rules, fault)

pub read_parts-returns-in_ok-pair_value-in-Two-clause-found : goal.read_parts-returns-in_ok-pair_value-in-Two-clause-found
read_parts-returns-in_ok-pair_value-in-Two-clause-found t c =
    let total : sizes (trees c.args.parts.now) ≡ size (tree c.in-Two.part.now) + (size (tree c.in-Two.last.now) + 0) = ap (λ l. sizes (trees l)) c.in-Two.ensures in (
      two_good (read (kind c.args.first.now)) (read (kind c.args.second.now)) (read_rest (kind c.args.second.now) c.args.whole) c.args.whole c.args.self.now.next c.args.parts.now
          c.in-Two.part.now (all_pending c.args.self.now.pending) c.in-Two.last.now _ _ _ _ _ c.in-Two.ensures c.in_ok-value-in-Two.ensures.found.0 c.in_ok-value-in-Two.ensures.found.1
          c.in_ok-behind-in-Two.ensures.found.0
          ∙ ap (λ x. good x (all_pending c.read-in-Two.new.self.pending)) (sym c.in_ok-pair_value-in-Two.ensures.value),
      omega (arith, total, c.in_ok-behind-in-Two.ensures.found.1, c.in_ok-value-in-Two.ensures.found.1),
    )

pub read_parts-returns-in_ok-pair_value-in-More-clause-found : goal.read_parts-returns-in_ok-pair_value-in-More-clause-found
read_parts-returns-in_ok-pair_value-in-More-clause-found t c =
    let total : sizes (trees c.args.parts.now) ≡ size (tree c.in-More.part.now) + sizes (trees c.in-More.rest.now) = ap (λ l. sizes (trees l)) c.in-More.ensures.0 in (
      more_good (read (kind c.args.first.now)) (read (kind c.args.second.now)) (read_rest (kind c.args.second.now) c.args.whole) c.args.whole c.args.self.now.next c.args.parts.now
          c.in-More.part.now (all_pending c.args.self.now.pending) c.in-More.rest.now _ _ _ _ _ c.in-More.ensures.0 c.in-More.ensures.1 c.in_ok-value-in-More.ensures.found.0
          c.in_ok-value-in-More.ensures.found.1 c.in_ok-behind-in-More.ensures.found.0
          ∙ ap (λ x. good x (all_pending c.read_rest.new.self.pending)) (sym c.in_ok-pair_value-in-More.ensures.value),
      omega (arith, total, c.in_ok-behind-in-More.ensures.found.1, c.in_ok-value-in-More.ensures.found.1),
    )

pub read-returns-in-Pair-clause-whole : goal.read-returns-in-Pair-clause-whole
read-returns-in-Pair-clause-whole t c =
    whole_at (kind c.args.ty.now) (k.pair (kind c.get-in-Pair.result.now) (kind c.get-in-Pair-2.result.now)) _
    (ap kind c.in-Pair.is ∙ kind_pair c.in-Pair.first c.in-Pair.second ∙ sym (λ i. k.pair (kind (c.get-in-Pair.ensures i)) (kind (c.get-in-Pair-2.ensures i)))) c.read_pair.ensures.whole

pub read-returns-in-List-clause-whole : goal.read-returns-in-List-clause-whole
read-returns-in-List-clause-whole t c =
    whole_at (kind c.args.ty.now) (k.list (kind c.get-in-List.result.now)) _
    (ap kind c.in-List.is ∙ kind_list c.in-List.part ∙ sym (ap (λ x. k.list (kind x)) c.get-in-List.ensures)) c.read_list.ensures.whole

pub read-returns-in-Set-clause-whole : goal.read-returns-in-Set-clause-whole
read-returns-in-Set-clause-whole t c =
    whole_at (kind c.args.ty.now) (k.set (kind c.get-in-Set.result.now)) _
    (ap kind c.in-Set.is ∙ kind_set c.in-Set.part ∙ sym (ap (λ x. k.set (kind x)) c.get-in-Set.ensures)) c.read_set.ensures.whole

pub read-returns-in-Map-clause-whole : goal.read-returns-in-Map-clause-whole
read-returns-in-Map-clause-whole t c =
    whole_at (kind c.args.ty.now) (k.map (kind c.get-in-Map.result.now) (kind c.get-in-Map-2.result.now)) _
    (ap kind c.in-Map.is ∙ kind_map c.in-Map.key c.in-Map.value ∙ sym (λ i. k.map (kind (c.get-in-Map.ensures i)) (kind (c.get-in-Map-2.ensures i)))) c.read_map.ensures.whole

pub read-returns-in-BigMap-clause-whole : goal.read-returns-in-BigMap-clause-whole
read-returns-in-BigMap-clause-whole t c =
    whole_at (kind c.args.ty.now) (k.big_map (kind c.get-in-BigMap.result.now) (kind c.get-in-BigMap-2.result.now)) _
    (ap kind c.in-BigMap.is ∙ kind_big_map c.in-BigMap.key c.in-BigMap.value ∙ sym (λ i. k.big_map (kind (c.get-in-BigMap.ensures i)) (kind (c.get-in-BigMap-2.ensures i)))) c.read_big_map.ensures.whole

pub read_rest-returns-in-Pair-clause-whole : goal.read_rest-returns-in-Pair-clause-whole
read_rest-returns-in-Pair-clause-whole t c =
    whole_at (kind c.args.ty.now) (k.pair (kind c.get.result.now) (kind c.get-in-Pair.result.now)) _
    (ap kind c.in-Pair.is ∙ kind_pair c.in-Pair.first c.in-Pair.second ∙ sym (λ i. k.pair (kind (c.get.ensures i)) (kind (c.get-in-Pair.ensures i)))) c.read_parts.ensures.whole

pub read_elements-returns-clause-whole : goal.read_elements-returns-clause-whole
read_elements-returns-clause-whole t c =
    list_whole (kind c.args.part.now) c.in_ok-new.field-0
    (subst (AllByRecursion (IsWhole (kind c.args.part.now))) (sym (c.in_ok-new.ensures ∙ c.from_rows.ensures)) c.loop-node.invariant.2)

pub read_argument-returns-clause-found : goal.read_argument-returns-clause-found
read_argument-returns-clause-found t c = (
  mapped_good (wrapped c.args.wrapper) (read (kind c.args.ty.now) c.args.self.now.next (tree c.args.node.now)) _ (all_pending c.args.self.now.pending) _ c.in_ok-value.ensures.found.0
      ∙ ap (λ x. good x (all_pending c.read.new.self.pending)) (sym c.in_ok-wrapped_value.ensures.value),
  c.in_ok-value.ensures.found.1,
)

pub read_binding-returns-in_err-datum-clause-entry : goal.read_binding-returns-in_err-datum-clause-entry
read_binding-returns-in_err-datum-clause-entry t c =
    let fault : IsFault (with_pending (all_pending c.args.self.now.pending) (read_binding (read (kind c.args.key.now)) (read (kind c.args.value.now)) (told c.args.before)
    c.args.self.now.next (tree c.args.binding.0.now) (tree c.args.binding.1.now))) c.in_err-datum.field-0.0 =
    binding_misfit (read (kind c.args.key.now)) (read (kind c.args.value.now)) (told c.args.before) c.args.self.now.next (tree c.args.binding.0.now) (tree c.args.binding.1.now)
    (all_pending c.args.self.now.pending) _ _ _ c.in_ok-first.ensures.found.0 c.in_err-datum.ensures in
    search (rules, fault)

pub read_binding-returns-in_err-second-clause-entry : goal.read_binding-returns-in_err-second-clause-entry
read_binding-returns-in_err-second-clause-entry t c =
    let fault : IsFault (with_pending (all_pending c.args.self.now.pending) (read_binding (read (kind c.args.key.now)) (read (kind c.args.value.now)) (told c.args.before)
    c.args.self.now.next (tree c.args.binding.0.now) (tree c.args.binding.1.now))) c.in_err-second.field-0.0 =
    binding_second (read (kind c.args.key.now)) (read (kind c.args.value.now)) (told c.args.before) c.args.self.now.next (tree c.args.binding.0.now) (tree c.args.binding.1.now)
    (all_pending c.args.self.now.pending) _ _ _ _ c.in_ok-first.ensures.found.0 c.in_ok-first.ensures.found.1 c.in_ok-datum.ensures.0 c.in_err-second.ensures.found in
    search (rules, fault)

pub read_parts-returns-in_err-behind-in-Two-clause-found : goal.read_parts-returns-in_err-behind-in-Two-clause-found
read_parts-returns-in_err-behind-in-Two-clause-found t c =
    let fault : IsFault (with_pending (all_pending c.args.self.now.pending) (read_parts (read (kind c.args.first.now)) (read (kind c.args.second.now))
    (read_rest (kind c.args.second.now) c.args.whole) c.args.whole c.args.self.now.next (trees c.args.parts.now))) c.in_err-behind-in-Two.field-0.0 =
    two_last_fault (read (kind c.args.first.now)) (read (kind c.args.second.now)) (read_rest (kind c.args.second.now) c.args.whole) c.args.whole c.args.self.now.next c.args.parts.now
    c.in-Two.part.now (all_pending c.args.self.now.pending) c.in-Two.last.now _ _ _ _ c.in-Two.ensures c.in_ok-value-in-Two.ensures.found.0 c.in_ok-value-in-Two.ensures.found.1
    c.in_err-behind-in-Two.ensures.found in
    search (rules, fault)
