-- A value that carries no ticket.
use Rattle.std.proofs.Common.{◌≡◌, Bool, true, false, List, [], ◌++◌, refl}
use Rattle.std.specs.Prelude.{◌||◌}
use Rattle.rules_data.specs.values.Val.{Val, some, left, right, both, list, table, big_table, ticket, Vals, no_val, more_vals, Pairs, no_pair, more_pairs}
use Rattle.rules_data.specs.values.Tickets.{Held, tickets, all_tickets, pair_tickets}
use Rattle.mich_term.specs.Holding.{carries, any_carries, any_entry_carries}

pub both_nothing : (xs ys : List Held) → xs ≡ [] → ys ≡ [] → xs ++ ys ≡ []
both_nothing xs ys h k = (λ i. h i ++ k i)

pub or_next : (b c d : Bool) → ((b || c) || d) ≡ (b || (c || d))
or_next true c d = refl
or_next false c d = refl

pub or_parts : (b c : Bool) → (b || c) ≡ false → (b ≡ false) × (c ≡ false)
or_parts false c h = (refl, h)
or_parts true c h = absurd cc

mutual
  pub carries_none : (x : Val) → carries x ≡ false → tickets x ≡ []
  carries_none (some x) h = carries_none x h
  carries_none (left x) h = carries_none x h
  carries_none (right x) h = carries_none x h
  carries_none (both x y) h = let q = or_parts (carries x) (carries y) h in both_nothing (tickets x) (tickets y) (carries_none x q.0) (carries_none y q.1)
  carries_none (list xs) h = none_in_list xs h
  carries_none (table ps) h = none_in_entries ps h
  carries_none (big_table ps) h = none_in_entries ps h
  carries_none (ticket issuer kind content amount) h = absurd cc
  carries_none _ h = refl

  none_in_list : (xs : Vals) → any_carries xs ≡ false → all_tickets xs ≡ []
  none_in_list no_val h = refl
  none_in_list (more_vals x xs) h = let q = or_parts (carries x) (any_carries xs) h in both_nothing (tickets x) (all_tickets xs) (carries_none x q.0) (none_in_list xs q.1)

  pub none_in_entries : (ps : Pairs) → any_entry_carries ps ≡ false → pair_tickets ps ≡ []
  none_in_entries no_pair h = refl
  none_in_entries (more_pairs k x ps) h = let q = or_parts (carries x) (any_entry_carries ps) h in both_nothing (tickets x) (pair_tickets ps) (carries_none x q.0) (none_in_entries ps q.1)
