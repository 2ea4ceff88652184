use Rattle.std.proofs.Common.{sym, subst}
use Rattle.rules_code.specs.steps.Collections.{collection_step}
use Rattle.mich_overload.specs.View.{collection_row}
use Rattle.mich_stack.specs.Ends.{IsKept}
use Rattle.mich_stack.specs.Given.{IsGiven}
use Rattle.mich_stack.specs.Views.{values}
use Rattle.mich_step.proofs.collections.collections.give_collections.Goals as goal

pub returns-in-EmptySet : goal.returns-in-EmptySet
returns-in-EmptySet c = λ big. c.nothing.ensures big (collection_step (collection_row c.args.row.now) (values big c.args.stack.now)) (values big c.empty_set.new.stack)
    (subst (λ q. IsKept (collection_step (collection_row q) (values big c.args.stack.now)) (values big c.empty_set.new.stack) c.empty_set.result) (sym c.in-EmptySet.is) (c.empty_set.ensures big))

pub returns-in-EmptyMap : goal.returns-in-EmptyMap
returns-in-EmptyMap c = λ big. c.nothing-in-EmptyMap.ensures big (collection_step (collection_row c.args.row.now) (values big c.args.stack.now)) (values big c.empty_map.new.stack)
    (subst (λ q. IsKept (collection_step (collection_row q) (values big c.args.stack.now)) (values big c.empty_map.new.stack) c.empty_map.result) (sym c.in-EmptyMap.is) (c.empty_map.ensures big))

pub returns-in-SizeList : goal.returns-in-SizeList
returns-in-SizeList c = λ big. subst (λ q. IsGiven big (collection_step (collection_row q) (values big c.args.stack.now)) (values big c.size_list.new.stack) c.size_list.result) (sym c.in-SizeList.is) (c.size_list.ensures big)

pub returns-in-SizeSet : goal.returns-in-SizeSet
returns-in-SizeSet c = λ big. c.nothing-in-SizeSet.ensures big (collection_step (collection_row c.args.row.now) (values big c.args.stack.now)) (values big c.size_set.new.stack)
    (subst (λ q. IsKept (collection_step (collection_row q) (values big c.args.stack.now)) (values big c.size_set.new.stack) c.size_set.result) (sym c.in-SizeSet.is) (c.size_set.ensures big))

pub returns-in-SizeMap : goal.returns-in-SizeMap
returns-in-SizeMap c = λ big. subst (λ q. IsGiven big (collection_step (collection_row q) (values big c.args.stack.now)) (values big c.size_map.new.stack) c.size_map.result) (sym c.in-SizeMap.is) (c.size_map.ensures big)

pub returns-in-MemSet : goal.returns-in-MemSet
returns-in-MemSet c = λ big. c.nothing-in-MemSet.ensures big (collection_step (collection_row c.args.row.now) (values big c.args.stack.now)) (values big c.mem_set.new.stack)
    (subst (λ q. IsKept (collection_step (collection_row q) (values big c.args.stack.now)) (values big c.mem_set.new.stack) c.mem_set.result) (sym c.in-MemSet.is) (c.mem_set.ensures big))

pub returns-in-MemMap : goal.returns-in-MemMap
returns-in-MemMap c = λ big. subst (λ q. IsGiven big (collection_step (collection_row q) (values big c.args.stack.now)) (values big c.mem_map.new.stack) c.mem_map.result) (sym c.in-MemMap.is) (c.mem_map.ensures big)

pub returns-in-GetMap : goal.returns-in-GetMap
returns-in-GetMap c = λ big. c.nothing-in-GetMap.ensures big (collection_step (collection_row c.args.row.now) (values big c.args.stack.now)) (values big c.get_map.new.stack)
    (subst (λ q. IsKept (collection_step (collection_row q) (values big c.args.stack.now)) (values big c.get_map.new.stack) c.get_map.result) (sym c.in-GetMap.is) (c.get_map.ensures big))

pub returns-in-UpdateSet : goal.returns-in-UpdateSet
returns-in-UpdateSet c = λ big. c.nothing-in-UpdateSet.ensures big (collection_step (collection_row c.args.row.now) (values big c.args.stack.now)) (values big c.update_set.new.stack)
    (subst (λ q. IsKept (collection_step (collection_row q) (values big c.args.stack.now)) (values big c.update_set.new.stack) c.update_set.result) (sym c.in-UpdateSet.is) (c.update_set.ensures big))

pub returns-in-UpdateMap : goal.returns-in-UpdateMap
returns-in-UpdateMap c = λ big. subst (λ q. IsGiven big (collection_step (collection_row q) (values big c.args.stack.now)) (values big c.update_map.new.stack) c.update_map.result) (sym c.in-UpdateMap.is) (c.update_map.ensures big)

pub returns-in-GetAndUpdateMap : goal.returns-in-GetAndUpdateMap
returns-in-GetAndUpdateMap c = λ big. c.nothing-in-GetAndUpdateMap.ensures big (collection_step (collection_row c.args.row.now) (values big c.args.stack.now)) (values big c.get_and_update_map.new.stack)
    (subst (λ q. IsKept (collection_step (collection_row q) (values big c.args.stack.now)) (values big c.get_and_update_map.new.stack) c.get_and_update_map.result) (sym c.in-GetAndUpdateMap.is) (c.get_and_update_map.ensures big))
