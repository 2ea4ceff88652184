use Rattle.std.proofs.Common.{rules, arith, ◌≡◌, List, [], ◌∷◌, sym, ap, ◌∙◌, subst}
use Rattle.std.specs.Prelude.{is_none}
use Rattle.std.specs.Vec.Iter.{into_iter_items}
use Rattle.std.proofs.lemmas.Grind.{common_steps}
use Rattle.rules_code.specs.typing.Literals.{fault_of_bodies}
use Rattle.mich_data.specs.View.{all_pending}
use Rattle.mich_data.specs.declared.pending.Pending.{Pending}
use Rattle.mich_literals.specs.unpacking.Pending.{AreBodies}
use Rattle.mich_literals.proofs.unpacking_lemmas.Items.{bodies_here, passes_on, fails_here, all_passed}
use Rattle.mich_literals.proofs.unpacking.trying.typed_bodies.Goals as goal

pub loop-item-init : goal.loop-item-init
loop-item-init c =
    let all : into_iter_items c.into_iter-item-iterator.result ≡ c.args.pending = search rules in
    record {
      bodies = subst (λ (l : List Pending). AreBodies (all_pending l)) (sym all) c.requires;
      same = ap (λ (l : List Pending). is_none (fault_of_bodies (all_pending l))) all;
    }

pub passes-requires : goal.passes-requires
passes-requires c =
    let iter = into_iter_items c.loop-item.item-iterator in
    let rest = into_iter_items c.next.new.self in
    let first : iter ≡ c.in-Some.item ∷ rest = search rules in
    (bodies_here iter rest c.in-Some.item first c.loop-item.invariant.bodies).0

pub returns-then-not-passed : goal.returns-then-not-passed
returns-then-not-passed c =
    let iter = into_iter_items c.loop-item.item-iterator in
    let rest = into_iter_items c.next.new.self in
    let first : iter ≡ c.in-Some.item ∷ rest = search rules in
    fails_here iter rest c.in-Some.item first _ c.loop-item.invariant.same (sym c.if-not-passed.true ∙ c.in_ok-passed.ensures)

pub loop-item-preserved : goal.loop-item-preserved
loop-item-preserved c =
    let iter = into_iter_items c.loop-item.item-iterator in
    let rest = into_iter_items c.next.new.self in
    let first : iter ≡ c.in-Some.item ∷ rest = search rules in
    record {
      bodies = (bodies_here iter rest c.in-Some.item first c.loop-item.invariant.bodies).1;
      same = passes_on iter rest c.in-Some.item first _ c.loop-item.invariant.same (sym c.if-not-passed.false ∙ c.in_ok-passed.ensures);
    }

pub returns : goal.returns
returns c =
    let none : into_iter_items c.loop-item.item-iterator ≡ [] = grind (arith, common_steps) in
    all_passed (into_iter_items c.loop-item.item-iterator) _ none c.loop-item.invariant.same
