-- The run that the definitions give is followed from the stack on.
use Rattle.std.proofs.Common.{List, [], refl, sym, subst}
use Rattle.std.specs.declared.option.Option.{Option}
use Rattle.std.specs.Map.{values_of}
use Rattle.rules_code.specs.steps.Changes.{burns}
use Rattle.mich_store_steps.specs.seen.Sights.{sight}
use Rattle.mich_ops.specs.declared.issued.Issued.{Issued}
use Rattle.mich_tickets.specs.Effects.{Tells}
use Rattle.mich_tickets.specs.Limits.{IsReady}
use Rattle.mich_world.proofs.ForCallers.{world_same, world_trans, ledger_lent}
use Rattle.mich_base.proofs.undo_lemmas.ForCallers.{keeps_same}
use Rattle.mich_world.specs.Marks.{KeepsWorld}
use Rattle.mich_world.specs.World.{World}
use Rattle.mich_machine.specs.Calls.{IsHosting}
use Rattle.mich_machine.specs.Ends.{EndsWith}
use Rattle.mich_machine.specs.Returned.{Numbered, picks, IsPicked, handed}
use Rattle.mich_machine.proofs.Ended.{some, shape, rising, ready, given_formed}
use Rattle.mich_machine.proofs.Finishing.{numbers_so, storage_so, replay_so, picked_so, replace_so, none_before_so, none_after_so, there_still, based_so, stored_so, ends_so, hosting_so}
use Rattle.mich_machine.proofs.ending.finish.Goals as goal

pub parts-requires : goal.parts-requires
parts-requires c = (sight c.args.world.now.store.bases.present, (shape c.requires).operations, (some c.requires).0.storage, (shape c.requires).is)

pub by_number-requires : goal.by_number-requires
by_number-requires c = rising c.requires

pub pick-requires : goal.pick-requires
pick-requires c =
    let big = sight c.args.world.now.store.bases.present in
    (big, (some c.requires).0.numbers, numbers_so c.requires c.in_ok-numbers.numbers c.in_ok-numbers.storage (c.in_ok-numbers.ensures big))

pub returns-in_default-clause-ends : goal.returns-in_default-clause-ends
returns-in_default-clause-ends c = λ e.
    let e' = e in
    let big = sight c.args.world.now.store.bases.present in
    let parts = c.in_ok-numbers.ensures big in
    let ns = (some e').0.numbers in
    let nums = numbers_so e' c.in_ok-numbers.numbers c.in_ok-numbers.storage parts in
    let h = subst (λ (o : Option (List Issued)). IsPicked (picks c.in_ok-all.all.entries ns) o c.pick.new.all.entries) c.in_default.is (c.in_ok-returned.ensures big ns nums) in
    replay_so e' c.in_ok-all.all.entries c.pick.new.all.entries c.in_ok-all.ensures h

pub returns-in_default-clause-keeps : goal.returns-in_default-clause-keeps
returns-in_default-clause-keeps c = world_same _

pub discard_left-requires : goal.discard_left-requires
discard_left-requires c =
    let e' = c.requires in
    let big = sight c.args.world.now.store.bases.present in
    let parts = c.in_ok-numbers.ensures big in
    let ns = (some e').0.numbers in
    let nums = numbers_so e' c.in_ok-numbers.numbers c.in_ok-numbers.storage parts in
    let h = subst (λ (o : Option (List Issued)). IsPicked (picks c.in_ok-all.all.entries ns) o c.pick.new.all.entries) c.in-Some.is (c.in_ok-returned.ensures big ns nums) in
    let q = picked_so c.args.issued c.in_ok-all.all.entries c.pick.new.all.entries ns c.in-Some.returned c.in_ok-all.ensures h in
    let so = storage_so e' c.in_ok-numbers.numbers c.in_ok-numbers.storage parts in
    subst (λ (m : Numbered). IsReady c.args.world.now.ledger.books.present (handed (values_of m))) (sym q.3) (ready e' q.0 q.1)

pub keep-requires-clause-there : goal.keep-requires-clause-there
keep-requires-clause-there c =
    let e' = c.requires in
    let big = sight c.args.world.now.store.bases.present in
    let parts = c.in_ok-numbers.ensures big in
    let ns = (some e').0.numbers in
    let nums = numbers_so e' c.in_ok-numbers.numbers c.in_ok-numbers.storage parts in
    let h = subst (λ (o : Option (List Issued)). IsPicked (picks c.in_ok-all.all.entries ns) o c.pick.new.all.entries) c.in-Some.is (c.in_ok-returned.ensures big ns nums) in
    let q = picked_so c.args.issued c.in_ok-all.all.entries c.pick.new.all.entries ns c.in-Some.returned c.in_ok-all.ensures h in
    let so = storage_so e' c.in_ok-numbers.numbers c.in_ok-numbers.storage parts in
    let y = c.discard_left.new.world in
    let tells = subst (λ (m : Numbered). Tells (burns (handed (values_of m))) c.args.world.now.ledger y.ledger) q.3 c.in_ok-discard_left.ensures.tells in
    there_still e' q.0 q.1 c.in_ok-numbers.storage so y c.discard_left.ensures.world tells

pub keep-requires-clause-replace : goal.keep-requires-clause-replace
keep-requires-clause-replace c =
    let e' = c.requires in
    let big = sight c.args.world.now.store.bases.present in
    let parts = c.in_ok-numbers.ensures big in
    let ns = (some e').0.numbers in
    let nums = numbers_so e' c.in_ok-numbers.numbers c.in_ok-numbers.storage parts in
    let h = subst (λ (o : Option (List Issued)). IsPicked (picks c.in_ok-all.all.entries ns) o c.pick.new.all.entries) c.in-Some.is (c.in_ok-returned.ensures big ns nums) in
    let q = picked_so c.args.issued c.in_ok-all.all.entries c.pick.new.all.entries ns c.in-Some.returned c.in_ok-all.ensures h in
    let so = storage_so e' c.in_ok-numbers.numbers c.in_ok-numbers.storage parts in
    let y = c.discard_left.new.world in
    let tells = subst (λ (m : Numbered). Tells (burns (handed (values_of m))) c.args.world.now.ledger y.ledger) q.3 c.in_ok-discard_left.ensures.tells in
    replace_so e' q.0 q.1 c.in_ok-numbers.storage so y c.discard_left.ensures.world tells

pub keep-requires-clause-before : goal.keep-requires-clause-before
keep-requires-clause-before c =
    let e' = c.requires in
    let big = sight c.args.world.now.store.bases.present in
    let parts = c.in_ok-numbers.ensures big in
    let ns = (some e').0.numbers in
    let nums = numbers_so e' c.in_ok-numbers.numbers c.in_ok-numbers.storage parts in
    let h = subst (λ (o : Option (List Issued)). IsPicked (picks c.in_ok-all.all.entries ns) o c.pick.new.all.entries) c.in-Some.is (c.in_ok-returned.ensures big ns nums) in
    let q = picked_so c.args.issued c.in_ok-all.all.entries c.pick.new.all.entries ns c.in-Some.returned c.in_ok-all.ensures h in
    let so = storage_so e' c.in_ok-numbers.numbers c.in_ok-numbers.storage parts in
    let y = c.discard_left.new.world in
    let tells = subst (λ (m : Numbered). Tells (burns (handed (values_of m))) c.args.world.now.ledger y.ledger) q.3 c.in_ok-discard_left.ensures.tells in
    none_before_so e' q.0 q.1 c.in_ok-numbers.storage so y c.discard_left.ensures.world tells

pub keep-requires-clause-after : goal.keep-requires-clause-after
keep-requires-clause-after c =
    let e' = c.requires in
    let big = sight c.args.world.now.store.bases.present in
    let parts = c.in_ok-numbers.ensures big in
    let ns = (some e').0.numbers in
    let nums = numbers_so e' c.in_ok-numbers.numbers c.in_ok-numbers.storage parts in
    let h = subst (λ (o : Option (List Issued)). IsPicked (picks c.in_ok-all.all.entries ns) o c.pick.new.all.entries) c.in-Some.is (c.in_ok-returned.ensures big ns nums) in
    let q = picked_so c.args.issued c.in_ok-all.all.entries c.pick.new.all.entries ns c.in-Some.returned c.in_ok-all.ensures h in
    let so = storage_so e' c.in_ok-numbers.numbers c.in_ok-numbers.storage parts in
    let y = c.discard_left.new.world in
    let tells = subst (λ (m : Numbered). Tells (burns (handed (values_of m))) c.args.world.now.ledger y.ledger) q.3 c.in_ok-discard_left.ensures.tells in
    none_after_so e' q.0 q.1 c.in_ok-numbers.storage so y c.discard_left.ensures.world tells

pub keep-requires-clause-based : goal.keep-requires-clause-based
keep-requires-clause-based c =
    let e' = c.requires in
    let big = sight c.args.world.now.store.bases.present in
    let parts = c.in_ok-numbers.ensures big in
    let ns = (some e').0.numbers in
    let nums = numbers_so e' c.in_ok-numbers.numbers c.in_ok-numbers.storage parts in
    let h = subst (λ (o : Option (List Issued)). IsPicked (picks c.in_ok-all.all.entries ns) o c.pick.new.all.entries) c.in-Some.is (c.in_ok-returned.ensures big ns nums) in
    let q = picked_so c.args.issued c.in_ok-all.all.entries c.pick.new.all.entries ns c.in-Some.returned c.in_ok-all.ensures h in
    let so = storage_so e' c.in_ok-numbers.numbers c.in_ok-numbers.storage parts in
    let y = c.discard_left.new.world in
    let tells = subst (λ (m : Numbered). Tells (burns (handed (values_of m))) c.args.world.now.ledger y.ledger) q.3 c.in_ok-discard_left.ensures.tells in
    based_so e' q.0 q.1 c.in_ok-numbers.storage so y c.discard_left.ensures.world tells

pub keep-requires-clause-formed : goal.keep-requires-clause-formed
keep-requires-clause-formed c =
    let e' = c.requires in
    let big = sight c.args.world.now.store.bases.present in
    let parts = c.in_ok-numbers.ensures big in
    let ns = (some e').0.numbers in
    let nums = numbers_so e' c.in_ok-numbers.numbers c.in_ok-numbers.storage parts in
    let h = subst (λ (o : Option (List Issued)). IsPicked (picks c.in_ok-all.all.entries ns) o c.pick.new.all.entries) c.in-Some.is (c.in_ok-returned.ensures big ns nums) in
    let q = picked_so c.args.issued c.in_ok-all.all.entries c.pick.new.all.entries ns c.in-Some.returned c.in_ok-all.ensures h in
    let so = storage_so e' c.in_ok-numbers.numbers c.in_ok-numbers.storage parts in
    given_formed e' q.0 q.1 c.in_ok-numbers.storage so

pub returns-clause-ends : goal.returns-clause-ends
returns-clause-ends c = λ e.
    let e' = e in
    let big = sight c.args.world.now.store.bases.present in
    let parts = c.in_ok-numbers.ensures big in
    let ns = (some e').0.numbers in
    let nums = numbers_so e' c.in_ok-numbers.numbers c.in_ok-numbers.storage parts in
    let h = subst (λ (o : Option (List Issued)). IsPicked (picks c.in_ok-all.all.entries ns) o c.pick.new.all.entries) c.in-Some.is (c.in_ok-returned.ensures big ns nums) in
    let q = picked_so c.args.issued c.in_ok-all.all.entries c.pick.new.all.entries ns c.in-Some.returned c.in_ok-all.ensures h in
    let so = storage_so e' c.in_ok-numbers.numbers c.in_ok-numbers.storage parts in
    let y = c.discard_left.new.world in
    let tells = subst (λ (m : Numbered). Tells (burns (handed (values_of m))) c.args.world.now.ledger y.ledger) q.3 c.in_ok-discard_left.ensures.tells in
    subst (λ (z : World). EndsWith e z (record { returned = c.in-Some.returned; changes = c.take_changes-changes.result })) (sym c.take_changes-changes.ensures.world)
    (ends_so e' q.0 q.1 c.in_ok-numbers.storage so y c.discard_left.ensures.world tells c.keep.new.world c.in_ok-keep.ensures.commits c.in-Some.returned c.take_changes-changes.result q.2 c.take_changes-changes.ensures.taken)

pub returns-clause-hosting : goal.returns-clause-hosting
returns-clause-hosting c =
    let e' = c.requires in
    let big = sight c.args.world.now.store.bases.present in
    let parts = c.in_ok-numbers.ensures big in
    let ns = (some e').0.numbers in
    let nums = numbers_so e' c.in_ok-numbers.numbers c.in_ok-numbers.storage parts in
    let h = subst (λ (o : Option (List Issued)). IsPicked (picks c.in_ok-all.all.entries ns) o c.pick.new.all.entries) c.in-Some.is (c.in_ok-returned.ensures big ns nums) in
    let q = picked_so c.args.issued c.in_ok-all.all.entries c.pick.new.all.entries ns c.in-Some.returned c.in_ok-all.ensures h in
    let so = storage_so e' c.in_ok-numbers.numbers c.in_ok-numbers.storage parts in
    let y = c.discard_left.new.world in
    let tells = subst (λ (m : Numbered). Tells (burns (handed (values_of m))) c.args.world.now.ledger y.ledger) q.3 c.in_ok-discard_left.ensures.tells in
    subst IsHosting (sym c.take_changes-changes.ensures.world)
    (hosting_so e' q.0 q.1 c.in_ok-numbers.storage so y c.discard_left.ensures.world tells c.keep.new.world c.in_ok-keep.ensures.commits (c.in_ok-keep.ensures.stored (stored_so e' q.0 q.1 c.in_ok-numbers.storage so y c.discard_left.ensures.world tells)))

pub returns-clause-keeps : goal.returns-clause-keeps
returns-clause-keeps c =
    world_trans _ _ _ (subst (λ (z : World). KeepsWorld c.args.world.now z) (sym c.discard_left.ensures.world)
    (ledger_lent c.args.world.now c.args.world.now.ledger c.discard_left.new.world.ledger refl c.discard_left.ensures.keeps))
    (world_trans _ _ _ c.in_ok-keep.ensures.keeps
    (subst (λ (z : World). KeepsWorld c.keep.new.world z) (sym c.take_changes-changes.ensures.world)
    (ledger_lent c.keep.new.world c.keep.new.world.ledger (record { books = c.keep.new.world.ledger.books; changes = [] }) refl (keeps_same _))))
