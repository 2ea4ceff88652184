use Rattle.std.proofs.Common.{rules, ◌≡◌, List, [], ◌∷◌, None, sym, subst, arith}
use Rattle.std.specs.List.{AllByRecursion}
use Rattle.std.specs.Vec.Iter.{into_iter_items}
use Rattle.std.proofs.lemmas.Grind.{common_steps}
use Rattle.std.proofs.lemmas.Result.{err_from_is_err_and}
use Rattle.mich_instr.specs.Scripts.{IsTypedScript}
use Rattle.mich_saved.specs.Shown.{IsAloneContract}
use Rattle.mich_saved.specs.declared.parts.ReadContract.{ReadContract}
use Rattle.mich_world.specs.Restoring.{IsAlone}
use Rattle.mich_world.specs.declared.restoring.SavedContract.{SavedContract}
use Rattle.mich_snapshot.specs.Holders.{AreOfSpelt}
use Rattle.mich_snapshot.proofs.Ways.{ContractsOnWay, all_pushed, contracts_end, contracts_go, contracts_start, contracts_stop}
use Rattle.mich_snapshot.proofs.holders.sound_contracts.Goals as goal

pub loop-contract-init : goal.loop-contract-init
loop-contract-init c =
    let all : into_iter_items c.into_iter-contract-iterator.result ≡ c.args.contracts = search rules in
    record {
      way = λ s found place head h each.
          subst (λ (l : List ReadContract). ContractsOnWay s found place None l c.new-sound.result c.args.sums.now.found.entries) (sym all)
          (subst (λ (l : List SavedContract). ContractsOnWay s found place None c.args.contracts l c.args.sums.now.found.entries) (sym c.new-sound.ensures)
          (contracts_start s found place c.args.contracts c.args.sums.now.found.entries h each));
      spelt = subst AreOfSpelt (sym all) c.requires;
      typed = subst (λ (l : List SavedContract). AllByRecursion (λ saved. IsTypedScript saved.contract.script) l) (sym c.new-sound.ensures) tt;
      alone = λ alone. (
        subst (λ (l : List ReadContract). AllByRecursion IsAloneContract l) (sym all) alone,
        subst (λ (l : List SavedContract). AllByRecursion IsAlone l) (sym c.new-sound.ensures) tt,
      );
    }

pub sound_contract-requires : goal.sound_contract-requires
sound_contract-requires c =
    let first : into_iter_items c.loop-contract.contract-iterator ≡ c.in-Some.contract ∷ into_iter_items c.next.new.self = search rules in
    (subst AreOfSpelt first c.loop-contract.invariant.spelt).0

pub loop-contract-preserved : goal.loop-contract-preserved
loop-contract-preserved c =
    let rest = into_iter_items c.next.new.self in
    let x = c.in-Some.contract in
    let first : into_iter_items c.loop-contract.contract-iterator ≡ x ∷ rest = search rules in
    record {
      way = λ s found place head h each.
          contracts_go s found place c.loop-contract.former x rest c.loop-contract.sound _ c.in_ok-next.next c.loop-contract.sums.found.entries _
          (subst (λ (l : List ReadContract). ContractsOnWay s found place c.loop-contract.former l c.loop-contract.sound c.loop-contract.sums.found.entries) first
          (c.loop-contract.invariant.way s found place head h each))
          (λ f d g kept. c.in_ok-next.ensures.tries s f d head g kept) c.in_ok-push.ensures.pushed;
      spelt = (subst AreOfSpelt first c.loop-contract.invariant.spelt).1;
      typed = all_pushed (λ saved. IsTypedScript saved.contract.script) c.loop-contract.sound _ c.in_ok-next.next c.in_ok-push.ensures.pushed c.loop-contract.invariant.typed c.in_ok-next.ensures.typed;
      alone = λ alone.
          let both = c.loop-contract.invariant.alone alone in
          let left = subst (λ (l : List ReadContract). AllByRecursion IsAloneContract l) first both.0 in
          (left.1, all_pushed IsAlone c.loop-contract.sound _ c.in_ok-next.next c.in_ok-push.ensures.pushed both.1 (c.in_ok-next.ensures.alone left.0));
    }

pub returns-in_err-next-clause-tries : goal.returns-in_err-next-clause-tries
returns-in_err-next-clause-tries c = λ s found place head h each.
    let rest = into_iter_items c.next.new.self in
    let x = c.in-Some.contract in
    let first : into_iter_items c.loop-contract.contract-iterator ≡ x ∷ rest = search rules in
    let way = subst (λ (l : List ReadContract). ContractsOnWay s found place c.loop-contract.former l c.loop-contract.sound c.loop-contract.sums.found.entries) first
    (c.loop-contract.invariant.way s found place head h each) in
    let p = err_from_is_err_and c.from_residual.result c.from_residual.ensures.1 in
    rw (p.1, p.2) (contracts_stop (List SavedContract) s found place c.loop-contract.former x rest c.loop-contract.sound c.loop-contract.sums.found.entries c.sound_contract.new.sums.found.entries _ way
    (λ f d g kept. c.in_err-next.ensures.tries s f d head g kept))

pub returns-clause-tries : goal.returns-clause-tries
returns-clause-tries c = λ s found place head h each.
    let none : into_iter_items c.loop-contract.contract-iterator ≡ [] = grind (arith, common_steps) in
    let way = subst (λ (l : List ReadContract). ContractsOnWay s found place c.loop-contract.former l c.loop-contract.sound c.loop-contract.sums.found.entries) none
    (c.loop-contract.invariant.way s found place head h each) in
    (contracts_end s found place c.loop-contract.former c.loop-contract.sound c.loop-contract.sums.found.entries way).0

pub returns-clause-saved : goal.returns-clause-saved
returns-clause-saved c = λ s found place head h each.
    let none : into_iter_items c.loop-contract.contract-iterator ≡ [] = grind (arith, common_steps) in
    let way = subst (λ (l : List ReadContract). ContractsOnWay s found place c.loop-contract.former l c.loop-contract.sound c.loop-contract.sums.found.entries) none
    (c.loop-contract.invariant.way s found place head h each) in
    (contracts_end s found place c.loop-contract.former c.loop-contract.sound c.loop-contract.sums.found.entries way).1

pub returns-clause-alone : goal.returns-clause-alone
returns-clause-alone c = λ alone. (c.loop-contract.invariant.alone alone).1
