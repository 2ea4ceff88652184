use Rattle.std.proofs.Common.{rules, ◌≡◌, ◌+◌, drop, get_or, ◌∷◌, ℕ, List, ◌++◌, refl, ap, ◌∙◌, arith}
use Rattle.std.proofs.lemmas.List.{at_drop_more}
use Rattle.mich_snapshot.proofs.Putting.{counted_first, put_all, put_next}
use Rattle.mich_snapshot.proofs.Parts.{accounts_text, all_accounts, none_left}
use Rattle.mich_snapshot.proofs.saving.put_accounts.Goals as goal

pub accounts-init : goal.accounts-init
accounts-init c = λ w r g.
    counted_first _ _ (accounts_text c.args.world.now w c.as_slice-who-items.result.now) _ _ c.in_ok-put_eight.ensures (search rules)

pub accounts-preserved : goal.accounts-preserved
accounts-preserved c = λ w r g.
    let items = c.as_slice-who-items.result.now in
    let index = c.accounts.who-index in
    let first : drop index items ≡ c.who-item.result ∷ drop (index + 1) items
    = at_drop_more (λ (ks : List (List ℕ)). ks) items index c.who-item.result (omega arith)
    ∙ ap (λ (k : List ℕ). k ∷ drop (index + 1) items) (let same : get_or items index c.who-item.result ≡ c.who-item.result = search rules in same) in
    put_next _ _ _ _ _ _ (c.in_ok-put_account_of.ensures w r g) (ap (accounts_text c.args.world.now w) first) (c.accounts.invariant w r g)

pub returns : goal.returns
returns c = λ w r g.
    let items = c.as_slice-who-items.result.now in
    put_all _ _ _ (none_left (accounts_text c.args.world.now w) items c.accounts.who-index refl (omega arith)) (c.accounts.invariant w r g)
    ∙ ap (λ (l : List ℕ). c.args.out.now.items ++ l) (all_accounts c.args.world.now w items r (c.as_slice-who-items.ensures ∙ c.in_ok-keys.ensures))
