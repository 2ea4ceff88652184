use Rattle.std.proofs.Common.{rules, ◌≡◌, List, [], ◌∷◌, None, sym, subst, arith}
use Rattle.std.specs.Vec.Iter.{into_iter_items}
use Rattle.std.proofs.lemmas.Grind.{common_steps}
use Rattle.std.proofs.lemmas.Result.{err_from_is_err_and}
use Rattle.mich_saved.specs.declared.parts.ReadAccount.{ReadAccount}
use Rattle.mich_world.specs.declared.restoring.SavedAccount.{SavedAccount}
use Rattle.mich_snapshot.proofs.Ways.{AccountsOnWay, accounts_end, accounts_go, accounts_start, accounts_stop}
use Rattle.mich_snapshot.proofs.holders.sound_accounts.Goals as goal

pub loop-account-init : goal.loop-account-init
loop-account-init c = λ s found place h each.
    let all : into_iter_items c.into_iter-account-iterator.result ≡ c.args.accounts = search rules in
    subst (λ (l : List ReadAccount). AccountsOnWay s found place None l c.new-sound.result c.args.sums.now.found.entries) (sym all)
    (subst (λ (l : List SavedAccount). AccountsOnWay s found place None c.args.accounts l c.args.sums.now.found.entries) (sym c.new-sound.ensures)
    (accounts_start s found place c.args.accounts c.args.sums.now.found.entries h each))

pub loop-account-preserved : goal.loop-account-preserved
loop-account-preserved c = λ s found place h each.
    let rest = into_iter_items c.next.new.self in
    let x = c.in-Some.account in
    let first : into_iter_items c.loop-account.account-iterator ≡ x ∷ rest = search rules in
    let way = subst (λ (l : List ReadAccount). AccountsOnWay s found place c.loop-account.former l c.loop-account.sound c.loop-account.sums.found.entries) first
    (c.loop-account.invariant s found place h each) in
    accounts_go s found place c.loop-account.former x rest c.loop-account.sound _ c.in_ok-next.next c.loop-account.sums.found.entries _ way (λ f g. c.in_ok-next.ensures s f g)
    c.in_ok-push.ensures.pushed

pub returns-in_err-next-clause-tries : goal.returns-in_err-next-clause-tries
returns-in_err-next-clause-tries c = λ s found place h each.
    let rest = into_iter_items c.next.new.self in
    let x = c.in-Some.account in
    let first : into_iter_items c.loop-account.account-iterator ≡ x ∷ rest = search rules in
    let way = subst (λ (l : List ReadAccount). AccountsOnWay s found place c.loop-account.former l c.loop-account.sound c.loop-account.sums.found.entries) first
    (c.loop-account.invariant s found place h each) in
    let p = err_from_is_err_and c.from_residual.result c.from_residual.ensures.1 in
    rw (p.1, p.2) (accounts_stop (List SavedAccount) s found place c.loop-account.former x rest c.loop-account.sound c.loop-account.sums.found.entries
    c.sound_account.new.sums.found.entries _ way (λ f g. c.in_err-next.ensures s f g))

pub returns-clause-tries : goal.returns-clause-tries
returns-clause-tries c = λ s found place h each.
    let none : into_iter_items c.loop-account.account-iterator ≡ [] = grind (arith, common_steps) in
    let way = subst (λ (l : List ReadAccount). AccountsOnWay s found place c.loop-account.former l c.loop-account.sound c.loop-account.sums.found.entries) none
    (c.loop-account.invariant s found place h each) in
    (accounts_end s found place c.loop-account.former c.loop-account.sound c.loop-account.sums.found.entries way).0

pub returns-clause-saved : goal.returns-clause-saved
returns-clause-saved c = λ s found place h each.
    let none : into_iter_items c.loop-account.account-iterator ≡ [] = grind (arith, common_steps) in
    let way = subst (λ (l : List ReadAccount). AccountsOnWay s found place c.loop-account.former l c.loop-account.sound c.loop-account.sums.found.entries) none
    (c.loop-account.invariant s found place h each) in
    (accounts_end s found place c.loop-account.former c.loop-account.sound c.loop-account.sums.found.entries way).1
