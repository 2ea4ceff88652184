-- Those that are left may be put in one after the other.
use Rattle.std.proofs.Common.{rules, arith, ◌≡◌, List, [], ◌∷◌, sym, subst}
use Rattle.std.proofs.lemmas.Grind.{common_steps}
use Rattle.std.specs.Vec.Iter.{into_iter_items}
use Rattle.mich_world.specs.Restoring.{MayPutContracts, PutsContracts}
use Rattle.mich_world.specs.declared.restoring.SavedContract.{SavedContract}
use Rattle.mich_world.proofs.restoring_lemmas.Stages.{contracts_first, contracts_next, contracts_none, contracts_then}
use Rattle.mich_world.proofs.world.World.put_contracts.Goals as goal

pub loop-saved-init : goal.loop-saved-init
loop-saved-init c =
    let all : into_iter_items c.into_iter-saved-iterator.result ≡ c.args.contracts = search rules in
    let u = c.args.self.now in
    record {
      may = subst (λ (l : List SavedContract). MayPutContracts l u) (sym all) c.requires;
      goes = λ w p. subst (λ (l : List SavedContract). PutsContracts l u w) all p;
    }

pub put_saved-requires : goal.put_saved-requires
put_saved-requires c =
    let rest = into_iter_items c.next.new.self in
    let u = c.loop-saved.self in
    let first : into_iter_items c.loop-saved.saved-iterator ≡ c.in-Some.saved ∷ rest = search rules in
    contracts_first c.in-Some.saved rest u (subst (λ (l : List SavedContract). MayPutContracts l u) first c.loop-saved.invariant.may)

pub loop-saved-preserved : goal.loop-saved-preserved
loop-saved-preserved c =
    let rest = into_iter_items c.next.new.self in
    let x = c.in-Some.saved in
    let u = c.loop-saved.self in
    let z = c.put_saved.new.self in
    let first : into_iter_items c.loop-saved.saved-iterator ≡ x ∷ rest = search rules in
    record {
      may = contracts_next x rest u z (subst (λ (l : List SavedContract). MayPutContracts l u) first c.loop-saved.invariant.may) c.in_ok-put_saved.ensures;
      goes = λ w p. c.loop-saved.invariant.goes w
          (subst (λ (l : List SavedContract). PutsContracts l u w) (sym first) (contracts_then x rest u z w c.in_ok-put_saved.ensures p));
    }

pub returns : goal.returns
returns c =
    let none : into_iter_items c.loop-saved.saved-iterator ≡ [] = grind (arith, common_steps) in
    let u = c.loop-saved.self in
    c.loop-saved.invariant.goes u (subst (λ (l : List SavedContract). PutsContracts l u u) (sym none) (contracts_none u (subst (λ (l : List SavedContract). MayPutContracts l u) none c.loop-saved.invariant.may)))
