-- Totals that were read have the identities of their tickets.
use Rattle.std.proofs.Common.{◌≡◌, List, [], ◌∷◌, map, refl, ap}
use Rattle.rules_data.specs.values.Tickets.{Identity}
use Rattle.mich_saved.specs.Shown.{total}
use Rattle.mich_saved.specs.declared.parts.ReadTotal.{ReadTotal}
use Rattle.mich_term.specs.TicketView.{identity}

pub same_identities : (ts : List ReadTotal) → map identity (map (λ t. t.id) ts) ≡ map (λ t. t.identity) (map (λ t. (total t).1) ts)
same_identities [] = refl
same_identities (t ∷ ts) = ap (λ (l : List Identity). identity t.id ∷ l) (same_identities ts)
