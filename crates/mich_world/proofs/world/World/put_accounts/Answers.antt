-- Those that are left may be put in one after the other.
use Rattle.std.proofs.Common.{rules, arith, ◌≡◌, List, [], ◌∷◌, sym, subst}
use Rattle.std.proofs.lemmas.Grind.{common_steps}
use Rattle.std.specs.Vec.Iter.{into_iter_items}
use Rattle.mich_world.specs.Restoring.{MayPutAccounts, PutsAccounts}
use Rattle.mich_world.specs.declared.restoring.SavedAccount.{SavedAccount}
use Rattle.mich_world.proofs.restoring_lemmas.Stages.{accounts_first, accounts_next, accounts_none, accounts_then}
use Rattle.mich_world.proofs.world.World.put_accounts.Goals as goal

pub loop-account-init : goal.loop-account-init
loop-account-init c =
    let all : into_iter_items c.into_iter-account-iterator.result ≡ c.args.accounts = search rules in
    let u = c.args.self.now in
    record {
      may = subst (λ (l : List SavedAccount). MayPutAccounts l u) (sym all) c.requires;
      goes = λ w p. subst (λ (l : List SavedAccount). PutsAccounts l u w) all p;
    }

pub put_account-requires : goal.put_account-requires
put_account-requires c =
    let rest = into_iter_items c.next.new.self in
    let u = c.loop-account.self in
    let first : into_iter_items c.loop-account.account-iterator ≡ c.in-Some.account ∷ rest = search rules in
    accounts_first c.in-Some.account rest u (subst (λ (l : List SavedAccount). MayPutAccounts l u) first c.loop-account.invariant.may)

pub loop-account-preserved : goal.loop-account-preserved
loop-account-preserved c =
    let rest = into_iter_items c.next.new.self in
    let x = c.in-Some.account in
    let u = c.loop-account.self in
    let z = c.put_account.new.self in
    let first : into_iter_items c.loop-account.account-iterator ≡ x ∷ rest = search rules in
    record {
      may = accounts_next x rest u z (subst (λ (l : List SavedAccount). MayPutAccounts l u) first c.loop-account.invariant.may) c.in_ok-put_account.ensures;
      goes = λ w p. c.loop-account.invariant.goes w
          (subst (λ (l : List SavedAccount). PutsAccounts l u w) (sym first) (accounts_then x rest u z w c.in_ok-put_account.ensures p));
    }

pub returns : goal.returns
returns c =
    let none : into_iter_items c.loop-account.account-iterator ≡ [] = grind (arith, common_steps) in
    let u = c.loop-account.self in
    c.loop-account.invariant.goes u (subst (λ (l : List SavedAccount). PutsAccounts l u u) (sym none) (accounts_none u))
