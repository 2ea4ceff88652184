use Rattle.std.proofs.Common.{ap, sym, ◌∙◌, refl}
use Rattle.std.specs.BTreeMap.{is_at}
use Rattle.mich_base.proofs.undo_lemmas.ForCallers.{changed_is_set, changed_none, changed_back}
use Rattle.mich_base.specs.undo.Undone.{changed_at}
use Rattle.mich_world.specs.declared.contract.Contract.{Contract}
use Rattle.mich_world.specs.Holders.{by_bytes, rebalanced}
use Rattle.mich_world.proofs.Sums.{part_least, sum_changed}
use Rattle.mich_world.proofs.maps.swap_balance.Goals as goal

pub returns-in-Some-clause-new : goal.returns-in-Some-clause-new
returns-in-Some-clause-new c =
    let v = c.in-Some.contract.now in
    (c.get_mut.follows.holds (rebalanced c.args.mutez v)).0
    ∙ changed_is_set (is_at (by_bytes c.args.hash.now)) c.args.contracts.now.entries (rebalanced c.args.mutez) v (sym c.in-Some.ensures.value)

pub returns-in-Some-clause-back : goal.returns-in-Some-clause-back
returns-in-Some-clause-back c =
    let v = c.in-Some.contract.now in
    let s = sym c.in-Some.ensures.value in
    let test = is_at (by_bytes c.args.hash.now) in
    let es = c.args.contracts.now.entries in
    ap (λ t. changed_at test t (rebalanced v.balance)) ((c.get_mut.follows.holds (rebalanced c.args.mutez v)).0 ∙ changed_is_set test es (rebalanced c.args.mutez) v s)
    ∙ changed_back test es (rebalanced c.args.mutez) (rebalanced v.balance) v s refl

pub returns-in-Some-clause-sum : goal.returns-in-Some-clause-sum
returns-in-Some-clause-sum c =
    let v = c.in-Some.contract.now in
    let s = sym c.in-Some.ensures.value in
    let test = is_at (by_bytes c.args.hash.now) in
    let es = c.args.contracts.now.entries in
    rw ((c.get_mut.follows.holds (rebalanced c.args.mutez v)).0 ∙ changed_is_set test es (rebalanced c.args.mutez) v s)
    (sum_changed (λ (x : Contract). x.balance) test (rebalanced c.args.mutez) es v s)

pub returns-in-Some-clause-within : goal.returns-in-Some-clause-within
returns-in-Some-clause-within c =
    let f = λ (x : Contract). x.balance in
    let test = is_at (by_bytes c.args.hash.now) in
    let least = part_least f test c.args.contracts.now.entries in
    rw (sym c.in-Some.ensures.value) at least

pub returns-in-None-clause-new : goal.returns-in-None-clause-new
returns-in-None-clause-new c = ap (λ m. m.entries) c.get_mut.follows.holds-at-none ∙ sym (changed_none _ _ _ (sym c.in-None.ensures.value))
