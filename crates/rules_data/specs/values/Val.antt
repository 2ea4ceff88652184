-- The values that scripts work on (Michelson reference, "Types"; Octez "Tickets").
use Rattle.std.specs.Prelude.{ℕ, ℤ, Bool, true, false, ◌&&◌, List}
use Rattle.rules_text.specs.nodes.Tree.{Tree}
use Rattle.rules_data.specs.types.Kind.{Kind}

mutual
  pub data Val : Type 0 where
    unit : Val
    truth : Bool → Val
    -- integers, natural numbers, mutez and moments
    number : ℤ → Val
    text : List ℕ → Val
    -- byte strings, and keys, hashes, signatures, chain ids and addresses by the bytes that spell them
    bytes : List ℕ → Val
    nothing : Val
    some : Val → Val
    left : Val → Val
    right : Val → Val
    both : Val → Val → Val
    list : Vals → Val
    -- elements in increasing order
    set : Vals → Val
    -- entries with increasing keys
    table : Pairs → Val
    big_table : Pairs → Val
    -- a body, and whether it is recursive
    lambda : Tree → Bool → Val
    -- the number of an operation
    operation : ℕ → Val
    -- the issuer's place, the type of the content, the content, and the amount
    ticket : List ℕ → Kind → Val → ℤ → Val

  pub data Vals : Type 0 where
    no_val : Vals
    more_vals : Val → Vals → Vals

  -- keys with their values
  pub data Pairs : Type 0 where
    no_pair : Pairs
    more_pairs : Val → Val → Pairs → Pairs

-- whether a value is of a comparable type (Michelson reference, "Comparable types")
abbrev pub is_comparable : Val → Bool
is_comparable unit = true
is_comparable (truth b) = true
is_comparable (number n) = true
is_comparable (text s) = true
is_comparable (bytes b) = true
is_comparable nothing = true
is_comparable (some v) = is_comparable v
is_comparable (left v) = is_comparable v
is_comparable (right v) = is_comparable v
is_comparable (both v w) = is_comparable v && is_comparable w
is_comparable (list vs) = false
is_comparable (set vs) = false
is_comparable (table ps) = false
is_comparable (big_table ps) = false
is_comparable (lambda body recursive) = false
is_comparable (operation n) = false
is_comparable (ticket issuer kind content amount) = false
