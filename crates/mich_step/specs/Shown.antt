-- What an instruction that isn't one on big maps sees of a big map: the tickets in it.
use Rattle.std.specs.Prelude.{◌≡◌, List, [], ◌∷◌, map}
use Rattle.rules_data.specs.values.Val.{Val, unit, some, left, right, both, list, table, big_table, Vals, no_val, more_vals, Pairs, no_pair, more_pairs}
use Rattle.rules_data.specs.values.Tickets.{Held, pair_tickets}
use Rattle.rules_code.specs.steps.TicketSteps.{as_value}
use Rattle.mich_term.specs.declared.value.Value.{Value}
use Rattle.mich_stack.specs.Views.{Sight, values, plain}

-- tickets as the values of entries
abbrev pub as_entries : List Held → Pairs
as_entries [] = no_pair
as_entries (t ∷ ts) = more_pairs unit (as_value t) (as_entries ts)

abbrev mutual
  -- a value with nothing but their tickets in its big maps
  pub shown : Val → Val
  shown (some v) = some (shown v)
  shown (left v) = left (shown v)
  shown (right v) = right (shown v)
  shown (both v w) = both (shown v) (shown w)
  shown (list vs) = list (all_shown vs)
  shown (table ps) = table (entries_shown ps)
  shown (big_table ps) = big_table (as_entries (pair_tickets ps))
  shown v = v

  pub all_shown : Vals → Vals
  all_shown no_val = no_val
  all_shown (more_vals v vs) = more_vals (shown v) (all_shown vs)

  -- keys hold no big map
  pub entries_shown : Pairs → Pairs
  entries_shown no_pair = no_pair
  entries_shown (more_pairs k v ps) = more_pairs k (shown v) (entries_shown ps)

-- this sight of big maps shows in each the tickets that lie in it
abbrev pub ShowsTickets : Sight → List Value → Type 0
ShowsTickets big vs = map shown (values big vs) ≡ map shown (plain vs)
