use Rattle.std.proofs.Common.{rules, ◌≡◌, ◌+◌, drop, get_or, Some, None, [], ◌∷◌, ℕ, List, ◌++◌, map, refl, ap, ◌∙◌, arith}
use Rattle.std.proofs.lemmas.List.{at_drop_more}
use Rattle.rules_text.specs.nodes.Tree.{Tree}
use Rattle.rules_world.specs.lines.Nodes.{line}
use Rattle.rules_world.specs.world.World.{account_or_none}
use Rattle.mich_world.specs.Holders.{account_at}
use Rattle.mich_report.proofs.Rest.{account_purse, account_seen, accounts_nodes, all_accounts, ended, found_more, none_more}
use Rattle.mich_report.proofs.state.add_accounts.Goals as goal
use Rattle.mich_report.proofs.state.add_accounts.Goals.{in-Some+in_ok-account_line+in_ok-push, in_default}

pub accounts-preserved : goal.accounts-preserved
accounts-preserved c = λ w r g.
    let items = c.as_slice-who-items.result.now in
    let index = c.accounts.who-index in
    let h = c.args.world.now.funds.present in
    let first : drop index items ≡ c.who-item.result ∷ drop (index + 1) items
    = at_drop_more (λ (ks : List (List ℕ)). ks) items index c.who-item.result (omega arith)
    ∙ ap (λ (k : List ℕ). k ∷ drop (index + 1) items) (let same : get_or items index c.who-item.result ≡ c.who-item.result = search rules in same) in
    elim c.match-balance.branch [
      | in-Some+in_ok-account_line+in_ok-push b ↦
          let there : account_at h c.who-item.result ≡ Some b.in-Some.balance = search rules in
          let purse = account_purse c.args.world.now w c.args.purses.now.entries c.who-item.result b.in-Some.balance r g there in
          let text : b.in_ok-account_line.field-0 ≡ line (account_seen w c.who-item.result b.in-Some.balance)
          = b.in_ok-account_line.ensures (account_or_none w c.who-item.result).holdings purse.order purse.same in
          found_more (account_seen w) (account_at h) c.accounts.lines c.match-balance.lines _ (drop index items) (drop (index + 1) items)
          c.who-item.result b.in-Some.balance first (c.accounts.invariant w r g) there
          (b.lines-is ∙ b.in_ok-push.ensures.pushed ∙ ap (λ (t : List ℕ). c.accounts.lines ++ t ∷ []) text)
      | in_default b ↦
          let there : account_at h c.who-item.result ≡ None = search rules in
          none_more (account_seen w) (account_at h) c.accounts.lines c.match-balance.lines _ (drop index items) (drop (index + 1) items)
          c.who-item.result first (c.accounts.invariant w r g) there b.lines-is
    ]

pub returns : goal.returns
returns c = λ w r g.
    ended (λ (ks : List (List ℕ)). map line (accounts_nodes w c.args.world.now.funds.present ks)) c.accounts.lines _ c.accounts.who-index c.as_slice-who-items.result.now refl (c.accounts.invariant w r g) (omega arith)
    ∙ ap (λ (ks : List (List ℕ)). c.args.lines.now ++ map line (accounts_nodes w c.args.world.now.funds.present ks)) (c.as_slice-who-items.ensures ∙ c.in_ok-keys.ensures)
    ∙ ap (λ (ts : List Tree). c.args.lines.now ++ map line ts) (all_accounts c.args.world.now w r)
