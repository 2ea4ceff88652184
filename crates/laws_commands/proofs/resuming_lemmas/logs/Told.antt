-- Worlds that differ in what their logs begin with are told alike.
use Rattle.std.proofs.Common.{◌≡◌, List, [], ◌∷◌, ◌++◌, sym, ap, ◌∙◌, map}
use Rattle.std.specs.Prelude.{ℤ, ◌+ℤ◌, codes}
use Rattle.rules_text.specs.nodes.Tree.{Tree, int}
use Rattle.rules_data.specs.values.Tickets.{Identity}
use Rattle.rules_code.specs.steps.Changes.{Change, minted_in, burnt_in}
use Rattle.rules_world.specs.lines.Nodes.{over, number, ticket_fields, account_node, contract_node, burn_nodes, state_nodes}
use Rattle.rules_world.specs.world.Balances.{supply}
use Rattle.rules_world.specs.world.Good.{IsGood}
use Rattle.rules_world.specs.world.Holdings.{held, identities}
use Rattle.rules_world.specs.world.World.{World}
use Rattle.laws_world.proofs.accounts.ForCallers.{minted_append, burnt_append}
use Rattle.laws_commands.proofs.resuming_lemmas.logs.Inserted.{loaded_log, loaded_identities}
use Rattle.laws_commands.proofs.resuming_lemmas.logs.Sums.{loaded_minted, loaded_burnt}
use Rattle.laws_commands.proofs.resuming_lemmas.worlds.Relogged.{relogged}

-- they mint and burn as much of each ticket, and the same tickets are minted whatever stands behind them
pub record AreAlikeLogs (first other : List Change) : Type 0 where
  pub minted : (id : Identity) → minted_in id first ≡ minted_in id other
  pub burnt : (id : Identity) → burnt_in id first ≡ burnt_in id other
  pub identities : (more : List Change) → identities (first ++ more) ≡ identities (other ++ more)

pub loaded_alike : (w : World) → IsGood w [] → AreAlikeLogs w.log (loaded_log w)
loaded_alike w g = record { minted = loaded_minted w g; burnt = loaded_burnt w g; identities = loaded_identities w }

module _ (first other : List Change) (a : AreAlikeLogs first other) (w : World) (more : List Change) (begins : w.log ≡ first ++ more) where
  minted_there : (id : Identity) → minted_in id w.log ≡ minted_in id (other ++ more)
  minted_there id =
      ap (minted_in id) begins ∙ minted_append id first more ∙ ap (λ (n : ℤ). n +ℤ minted_in id more) (a.minted id)
      ∙ sym (minted_append id other more)

  burnt_there : (id : Identity) → burnt_in id w.log ≡ burnt_in id (other ++ more)
  burnt_there id =
      ap (burnt_in id) begins ∙ burnt_append id first more ∙ ap (λ (n : ℤ). n +ℤ burnt_in id more) (a.burnt id)
      ∙ sym (burnt_append id other more)

  minted_tickets : identities w.log ≡ identities (other ++ more)
  minted_tickets = ap identities begins ∙ a.identities more

  abbrev nodes_with : (Identity → ℤ) → (Identity → ℤ) → List Identity → List Tree
  nodes_with minted burnt ids =
      map account_node w.accounts ++ (map (contract_node w.rate) w.contracts ++ (map (λ id.
      over (codes "Tickets") (ticket_fields id.issuer id.kind id.content ++ int (minted id) ∷ int (burnt id) ∷ int (held w id) ∷ [])) ids
      ++ over (codes "Fees") (number w.fees ∷ []) ∷
      (burn_nodes w.rate w.storage_burn ++ over (codes "Supply") (number (supply w) ∷ []) ∷ [])))

  pub told_alike : state_nodes w ≡ state_nodes (relogged (other ++ more) w)
  told_alike = λ k. nodes_with (λ id. minted_there id k) (λ id. burnt_there id k) (minted_tickets k)
