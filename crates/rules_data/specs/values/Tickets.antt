-- The tickets in a value (Octez "Tickets").
use Rattle.std.specs.Prelude.{ℕ, ℤ, List, [], ◌∷◌, ◌++◌}
use Rattle.rules_data.specs.types.Kind.{Kind}
use Rattle.rules_data.specs.values.Val.{Val, some, left, right, both, list, table, big_table, ticket, Vals, no_val, more_vals, Pairs, no_pair, more_pairs}

-- what makes tickets alike: the issuer's place, the type of the content and the content
pub record Identity : Type 0 where
  pub issuer : List ℕ
  pub kind : Kind
  pub content : Val

-- what a ticket is: its identity, and its amount
pub record Held : Type 0 where
  pub issuer : List ℕ
  pub kind : Kind
  pub content : Val
  pub amount : ℤ

abbrev mutual
  -- in order: parts from left to right, entries by key
  pub tickets : Val → List Held
  tickets (some v) = tickets v
  tickets (left v) = tickets v
  tickets (right v) = tickets v
  tickets (both v w) = tickets v ++ tickets w
  tickets (list vs) = all_tickets vs
  tickets (table ps) = pair_tickets ps
  tickets (big_table ps) = pair_tickets ps
  tickets (ticket issuer kind content amount) = record { issuer = issuer; kind = kind; content = content; amount = amount } ∷ []
  tickets _ = []

  pub all_tickets : Vals → List Held
  all_tickets no_val = []
  all_tickets (more_vals v vs) = tickets v ++ all_tickets vs

  pub pair_tickets : Pairs → List Held
  pair_tickets no_pair = []
  pair_tickets (more_pairs k v ps) = tickets v ++ pair_tickets ps
