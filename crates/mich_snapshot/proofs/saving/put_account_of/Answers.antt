use Rattle.std.proofs.Common.{rules, ◌≡◌, ℕ, ◌++◌, Some, None, sym, ap, ◌∙◌, subst, append-nil}
use Rattle.std.specs.Prelude.{OnOk}
use Rattle.std.specs.declared.option.Option.{Option}
use Rattle.mich_world.specs.Holders.{account_at}
use Rattle.mich_report.proofs.ForCallers.{account_purse}
use Rattle.mich_snapshot.specs.Saved.{account_seen, on_list}
use Rattle.mich_snapshot.proofs.saving.put_account_of.Goals as goal

pub returns-in-Some : goal.returns-in-Some
returns-in-Some c = λ w r g.
    let there : account_at c.args.world.now.funds.present c.args.who.now ≡ Some c.in-Some.balance = search rules in
    let purse = account_purse c.args.world.now w c.args.purses.now.entries c.args.who.now c.in-Some.balance r g there in
    subst (λ (o : Option ℕ). OnOk c.put_account.result (c.put_account.new.out.items ≡ c.args.out.now.items ++ on_list (account_seen w c.args.who.now) o))
    (sym there) (c.put_account.ensures _ purse.order purse.same)

pub returns-in-None : goal.returns-in-None
returns-in-None c = λ w r g.
    let there : account_at c.args.world.now.funds.present c.args.who.now ≡ None = search rules in
    sym (append-nil c.args.out.now.items) ∙ ap (λ (o : Option ℕ). c.args.out.now.items ++ on_list (account_seen w c.args.who.now) o) (sym there)
