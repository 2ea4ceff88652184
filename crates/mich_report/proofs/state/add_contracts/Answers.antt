use Rattle.std.proofs.Common.{rules, ◌≡◌, ◌+◌, drop, get_or, Some, None, [], ◌∷◌, ℕ, List, ◌++◌, map, refl, ap, ◌∙◌, arith}
use Rattle.std.proofs.lemmas.List.{at_drop_more}
use Rattle.rules_text.specs.nodes.Tree.{Tree}
use Rattle.rules_world.specs.lines.Nodes.{contract_node, line}
use Rattle.mich_world.specs.Holders.{contract_at}
use Rattle.mich_world.specs.Standing.{plain}
use Rattle.mich_report.proofs.Rest.{contracts_nodes, all_contracts, ended, found_more, none_more}
use Rattle.mich_report.proofs.state.add_contracts.Goals as goal
use Rattle.mich_report.proofs.state.add_contracts.Goals.{in-Some+in_ok-contract_line+in_ok-push, in_default}

pub contracts-preserved : goal.contracts-preserved
contracts-preserved c =
    let items = c.as_slice-hash-items.result.now in
    let index = c.contracts.hash-index in
    let h = c.args.world.now.funds.present in
    let bs = c.args.world.now.store.bases.present in
    let hash : List ℕ = get_or items index [] in
    let first : drop index items ≡ hash ∷ drop (index + 1) items
    = at_drop_more (λ (ks : List (List ℕ)). ks) items index [] (omega arith) in
    elim c.match-contract.branch [
      | in-Some+in_ok-contract_line+in_ok-push b ↦
          let there : contract_at h hash ≡ Some b.in-Some.contract.now = search rules in
          let text : b.in_ok-contract_line.field-0 ≡ line (contract_node h.rate (hash, plain bs b.in-Some.contract.now)) = search rules in
          found_more (λ k x. contract_node h.rate (k, plain bs x)) (contract_at h) c.contracts.lines c.match-contract.lines _ (drop index items) (drop (index + 1) items)
          hash b.in-Some.contract.now first c.contracts.invariant there
          (b.lines-is ∙ b.in_ok-push.ensures.pushed ∙ ap (λ (t : List ℕ). c.contracts.lines ++ t ∷ []) text)
      | in_default b ↦
          let there : contract_at h hash ≡ None = search rules in
          none_more (λ k x. contract_node h.rate (k, plain bs x)) (contract_at h) c.contracts.lines c.match-contract.lines _ (drop index items) (drop (index + 1) items)
          hash first c.contracts.invariant there b.lines-is
    ]

pub returns : goal.returns
returns c = λ w r.
    ended (λ (ks : List (List ℕ)). map line (contracts_nodes c.args.world.now.store.bases.present c.args.world.now.funds.present ks)) c.contracts.lines _ c.contracts.hash-index c.as_slice-hash-items.result.now refl c.contracts.invariant (omega arith)
    ∙ ap (λ (ks : List (List ℕ)). c.args.lines.now ++ map line (contracts_nodes c.args.world.now.store.bases.present c.args.world.now.funds.present ks)) (c.as_slice-hash-items.ensures ∙ c.in_ok-keys.ensures)
    ∙ ap (λ (ts : List Tree). c.args.lines.now ++ map line ts) (all_contracts c.args.world.now w r)
