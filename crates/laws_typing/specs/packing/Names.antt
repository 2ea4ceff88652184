-- What can be packed: values in which each name has a code (Octez "data encoding", the primitives).
use Rattle.std.specs.Prelude.{◌≡◌, false, is_none}
use Rattle.rules_text.specs.nodes.Tree.{Tree, prim, seq, Trees, none, more}
use Rattle.rules_text.specs.nodes.Primitives.{code_of_name}
use Rattle.rules_data.specs.values.Val.{Val, some, left, right, both, list, set, table, big_table, lambda, ticket, Vals, no_val, more_vals, Pairs, no_pair, more_pairs}

abbrev mutual
  -- each name in a node is a primitive's
  pub HasCodes : Tree → Type 0
  HasCodes (prim name annotations args) = (is_none (code_of_name name) ≡ false) × HaveCodes args
  HasCodes (seq ts) = HaveCodes ts
  HasCodes _ = Unit {0}

  pub HaveCodes : Trees → Type 0
  HaveCodes none = Unit {0}
  HaveCodes (more t ts) = HasCodes t × HaveCodes ts

abbrev mutual
  -- no ticket is in a value, and each name in the bodies of its lambdas is a primitive's
  pub IsPackable : Val → Type 0
  IsPackable (some x) = IsPackable x
  IsPackable (left x) = IsPackable x
  IsPackable (right x) = IsPackable x
  IsPackable (both x y) = IsPackable x × IsPackable y
  IsPackable (list xs) = ArePackable xs
  IsPackable (set xs) = ArePackable xs
  IsPackable (table es) = EntriesArePackable es
  IsPackable (big_table es) = EntriesArePackable es
  IsPackable (lambda t recursive) = HasCodes t
  IsPackable (ticket issuer kind content amount) = ⊥
  IsPackable _ = Unit {0}

  pub ArePackable : Vals → Type 0
  ArePackable no_val = Unit {0}
  ArePackable (more_vals x xs) = IsPackable x × ArePackable xs

  pub EntriesArePackable : Pairs → Type 0
  EntriesArePackable no_pair = Unit {0}
  EntriesArePackable (more_pairs x y es) = IsPackable x × IsPackable y × EntriesArePackable es
