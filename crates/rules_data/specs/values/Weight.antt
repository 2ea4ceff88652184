-- What values weigh where gas is charged for them (this host's cost table).
use Rattle.std.specs.Prelude.{ℕ, ◌+◌}
use Rattle.rules_data.specs.values.Val.{Val, some, left, right, both, list, set, table, Vals, no_val, more_vals, Pairs, no_pair, more_pairs}

abbrev mutual
  -- 1 and the weights of the parts, keys included; a big map, a lambda, an operation, a ticket, text and bytes weigh 1
  pub weight : Val → ℕ
  weight (some v) = weight v + 1
  weight (left v) = weight v + 1
  weight (right v) = weight v + 1
  weight (both v w) = weight v + weight w + 1
  weight (list vs) = weights vs + 1
  weight (set vs) = weights vs + 1
  weight (table ps) = pair_weights ps + 1
  weight _ = 1

  pub weights : Vals → ℕ
  weights no_val = 0
  weights (more_vals v vs) = weight v + weights vs

  pub pair_weights : Pairs → ℕ
  pair_weights no_pair = 0
  pair_weights (more_pairs k v ps) = weight k + weight v + pair_weights ps
