use Rattle.std.proofs.lemmas.Grind.{common_steps}
use Rattle.std.proofs.Common.{rules, arith, ◌≡◌, List, [], ◌∷◌, map, Some, None, refl, sym, subst}
use Rattle.std.specs.declared.option.Option.{Option}
use Rattle.std.specs.Vec.Iter.{into_iter_items}
use Rattle.mich_ops.specs.declared.issued.Issued.{Issued}
use Rattle.mich_stack.specs.Views.{seen}
use Rattle.mich_term.specs.View.{vals_of}
use Rattle.mich_term.specs.declared.value.Value.{Value}
use Rattle.mich_machine.specs.Returned.{Pick, picks, IsPicked}
use Rattle.mich_machine.proofs.Numbers.{first_operation, next_way, none_is}
use Rattle.mich_machine.proofs.Picking.{IsOnWay, front_none, on_way, off_way, way_ends}
use Rattle.mich_machine.proofs.returning.pick.Goals as goal

pub loop-value-init : goal.loop-value-init
loop-value-init c = λ big ns h.
    let all : into_iter_items c.into_iter-value-iterator.result ≡ c.args.numbers = search rules in
    let o = picks c.args.all.now.entries ns in
    subst (λ (l : List Value). IsOnWay o (vals_of (map (seen big) l)) c.new-picked.result c.args.all.now.entries) (sym all)
    (subst (λ (xs : List Issued). IsOnWay o (vals_of (map (seen big) c.args.numbers)) xs c.args.all.now.entries) (sym c.new-picked.ensures)
    (record { numbers = ns; are = h; same = sym (front_none o) }))

pub unreachable-requires : goal.unreachable-requires
unreachable-requires c =
    let big = c.requires.0 in
    let rest = into_iter_items c.next.new.self in
    let first : into_iter_items c.loop-value.value-iterator ≡ c.in-Some.value ∷ rest = search rules in
    let n = first_operation big (into_iter_items c.loop-value.value-iterator) rest c.in-Some.value _ _ _ first (c.loop-value.invariant big c.requires.1 c.requires.2) in
    c.in_default.not-Operation n.0 n.1

pub returns-in_default-remove : goal.returns-in_default-remove
returns-in_default-remove c = λ big ns h.
    let rest = into_iter_items c.next.new.self in
    let first : into_iter_items c.loop-value.value-iterator ≡ c.in-Some.value ∷ rest = search rules in
    let way = next_way big (into_iter_items c.loop-value.value-iterator) rest c.in-Some.value _ _ _ first (c.loop-value.invariant big ns h) c.in-Operation.number c.in-Operation.is in
    subst (λ (o : Option Pick). IsPicked o None c.remove.new.self.entries)
    (sym (off_way _ _ _ _ _ way (none_is c.remove.result _ c.remove.ensures.value c.in_default-remove.not-Some))) tt

pub loop-value-preserved : goal.loop-value-preserved
loop-value-preserved c = λ big ns h.
    let rest = into_iter_items c.next.new.self in
    let first : into_iter_items c.loop-value.value-iterator ≡ c.in-Some.value ∷ rest = search rules in
    let way = next_way big (into_iter_items c.loop-value.value-iterator) rest c.in-Some.value _ _ _ first (c.loop-value.invariant big ns h) c.in-Operation.number c.in-Operation.is in
    subst (λ (xs : List Issued). IsOnWay (picks c.args.all.now.entries ns) (vals_of (map (seen big) rest)) xs c.remove.new.self.entries) (sym c.in_ok-push.ensures.pushed)
    (on_way _ _ _ _ _ way c.in-Some-remove.operation c.remove.new.self.entries c.in-Some-remove.ensures.value c.remove.ensures.entries)

pub returns : goal.returns
returns c = λ big ns h.
    let none : into_iter_items c.loop-value.value-iterator ≡ [] = grind (arith, common_steps) in
    let way = subst (λ (l : List Value). IsOnWay (picks c.args.all.now.entries ns) (vals_of (map (seen big) l)) c.loop-value.picked c.loop-value.all.entries) none (c.loop-value.invariant big ns h) in
    subst (λ (o : Option Pick). IsPicked o (Some c.loop-value.picked) c.loop-value.all.entries) (sym (way_ends _ _ _ way)) (refl, refl)
