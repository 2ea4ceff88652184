use Rattle.std.proofs.Common.{ap, sym, ◌∙◌, refl}
use Rattle.std.specs.List.{sum_by}
use Rattle.std.specs.Map.{values_of}
use Rattle.std.specs.BTreeMap.{is_at}
use Rattle.mich_base.proofs.undo_lemmas.ForCallers.{changed_is_set, changed_none, changed_back}
use Rattle.mich_base.specs.undo.Undone.{changed_at}
use Rattle.mich_world.specs.declared.contract.Contract.{Contract}
use Rattle.mich_world.specs.Holders.{by_bytes, repaid}
use Rattle.mich_world.proofs.Sums.{sum_same}
use Rattle.mich_world.proofs.maps.swap_paid.Goals as goal

pub returns-in-Some-clause-new : goal.returns-in-Some-clause-new
returns-in-Some-clause-new c =
    let v = c.in-Some.contract.now in
    (c.get_mut.follows.holds (repaid c.args.paid v)).0
    ∙ changed_is_set (is_at (by_bytes c.args.hash.now)) c.args.contracts.now.entries (repaid c.args.paid) v (sym c.in-Some.ensures.value)

pub returns-in-Some-clause-back : goal.returns-in-Some-clause-back
returns-in-Some-clause-back c =
    let v = c.in-Some.contract.now in
    let s = sym c.in-Some.ensures.value in
    let test = is_at (by_bytes c.args.hash.now) in
    let es = c.args.contracts.now.entries in
    ap (λ t. changed_at test t (repaid v.paid)) ((c.get_mut.follows.holds (repaid c.args.paid v)).0 ∙ changed_is_set test es (repaid c.args.paid) v s)
    ∙ changed_back test es (repaid c.args.paid) (repaid v.paid) v s refl

pub returns-in-Some-clause-sum : goal.returns-in-Some-clause-sum
returns-in-Some-clause-sum c =
    let v = c.in-Some.contract.now in
    let test = is_at (by_bytes c.args.hash.now) in
    let es = c.args.contracts.now.entries in
    ap (λ t. sum_by (λ (x : Contract). x.balance) (values_of t)) ((c.get_mut.follows.holds (repaid c.args.paid v)).0 ∙ changed_is_set test es (repaid c.args.paid) v (sym c.in-Some.ensures.value))
    ∙ sum_same (λ (x : Contract). x.balance) test (repaid c.args.paid) (λ x. refl) es

pub returns-in-None-clause-new : goal.returns-in-None-clause-new
returns-in-None-clause-new c = ap (λ m. m.entries) c.get_mut.follows.holds-at-none ∙ sym (changed_none _ _ _ (sym c.in-None.ensures.value))
