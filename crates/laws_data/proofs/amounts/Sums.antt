-- Amounts of tickets of lists put together.
use Rattle.std.proofs.Common.{◌≡◌, List, [], ◌∷◌, ◌++◌, sym, ap, ◌∙◌}
use Rattle.std.specs.Prelude.{◌+ℤ◌}
use Rattle.std.proofs.Math.IntN.{+ℤ_assoc, +ℤ_idl}
use Rattle.rules_data.specs.values.Tickets.{Identity, Held}
use Rattle.rules_code.specs.steps.Changes.{amount_of, amount_among}

pub among_append : (id : Identity) (ts us : List Held) → amount_among id (ts ++ us) ≡ amount_among id ts +ℤ amount_among id us
among_append id [] us = sym (+ℤ_idl (amount_among id us))
among_append id (t ∷ ts) us =
    ap (λ z. amount_of id t +ℤ z) (among_append id ts us) ∙ sym
    (+ℤ_assoc (amount_of id t) (amount_among id ts) (amount_among id us))
