use Rattle.std.proofs.Common.{rules, ◌≡◌, ℕ, true, List, [], ◌∷◌, ◌++◌, Some, None, map, refl, sym, ap, ◌∙◌}
use Rattle.std.specs.Prelude.{codes, is_some}
use Rattle.std.specs.declared.option.Option.{Option}
use Rattle.rules_text.specs.nodes.Tree.{Tree}
use Rattle.rules_world.specs.lines.Nodes.{burn_nodes, line, number, over}
use Rattle.mich_report.proofs.state.add_burn.Goals as goal

burn_node : ℕ → Tree
burn_node burn = over (codes "StorageBurn") (number burn ∷ [])

one_burn : (rate : Option ℕ) (burn : ℕ) → is_some rate ≡ true → burn_nodes rate burn ≡ burn_node burn ∷ []
unfolding burn_node
one_burn (Some rate) burn h = refl
one_burn None burn h = cc

pub returns-in_ok-push : goal.returns-in_ok-push
unfolding burn_node
returns-in_ok-push c =
    let h = c.args.world.now.funds.present in
    let there : is_some h.rate ≡ true = search rules in
    let text : c.in_ok-node_line.field-0 ≡ line (burn_node h.storage_burn) = search rules in
    c.in_ok-push.ensures.pushed ∙ ap (λ (t : List ℕ). c.args.lines.now ++ t ∷ []) text
    ∙ ap (λ (ts : List Tree). c.args.lines.now ++ map line ts) (sym (one_burn h.rate h.storage_burn there))
