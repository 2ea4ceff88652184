-- Whether tickets are in a value.
use Rattle.std.specs.Prelude.{Bool, true, false, ◌||◌}
use Rattle.rules_data.specs.values.Val.{Val, some, left, right, both, list, table, big_table, ticket, Vals, no_val, more_vals, Pairs, no_pair, more_pairs}

-- whether a ticket is
abbrev mutual
  pub carries : Val → Bool
  carries (some v) = carries v
  carries (left v) = carries v
  carries (right v) = carries v
  carries (both v w) = carries v || carries w
  carries (list vs) = any_carries vs
  carries (table ps) = any_entry_carries ps
  carries (big_table ps) = any_entry_carries ps
  carries (ticket issuer kind content amount) = true
  carries _ = false

  pub any_carries : Vals → Bool
  any_carries no_val = false
  any_carries (more_vals v vs) = carries v || any_carries vs

  -- keys carry none
  pub any_entry_carries : Pairs → Bool
  any_entry_carries no_pair = false
  any_entry_carries (more_pairs k v ps) = carries v || any_entry_carries ps
