-- Tables of prices as nodes: `{ Cost NAME base coefficient ; .. }`.
use Rattle.std.specs.Prelude.{ℕ, ◌+◌, [], codes, ℤ, pos, int_le, unsigned_abs, Bool, true, false, ◌&&◌, is_some, if◌then◌else◌, Option, Some, None, Result, Ok, Err}
use Rattle.std.specs.Str.{bytes_eq}
use Rattle.rules_text.specs.nodes.Limits.{most_price}
use Rattle.rules_text.specs.nodes.Tree.{Tree, Trees, prim, int, seq, none, more, size}
use Rattle.rules_data.specs.declared.gas.Kind.{Kind}
use Rattle.rules_data.specs.gas.Kinds.{kind_named}
use Rattle.rules_data.specs.gas.Prices.{Price, Listed, nothing_listed, with_price}

-- whether three nodes are a name, which stands alone, and two numbers
abbrev pub are_fields : Tree → Tree → Tree → Bool
are_fields (prim name [] none) (int base) (int coefficient) = true
are_fields _ _ _ = false

-- whether a node is a row `Cost NAME base coefficient`, in which nothing is annotated
abbrev pub is_row : Tree → Bool
is_row (prim word [] (more name (more base (more coefficient none)))) =
    bytes_eq word (codes "Cost") && are_fields name base coefficient
is_row _ = false

abbrev pub are_rows : Trees → Bool
are_rows none = true
are_rows (more row rows) = is_row row && are_rows rows

-- whether a node is a table: a sequence of rows
abbrev pub is_table : Tree → Bool
is_table (seq rows) = are_rows rows
is_table _ = false

-- whether a number is from low to high
abbrev pub is_between : ℤ → ℤ → ℤ → Bool
is_between low high n = int_le low n && int_le n high

-- a price, where the base is 1 to 1,000,000 and the coefficient 0 to 1,000,000
abbrev pub price_from : ℤ → ℤ → Option Price
price_from base coefficient =
    if is_between (pos 1) (pos most_price) base && is_between (pos 0) (pos most_price) coefficient
    then Some (record { base = unsigned_abs base; coefficient = unsigned_abs coefficient })
    else None

-- a kind and its price
pub record Listing : Type 0 where
  pub kind : Kind
  pub price : Price

-- a name and two numbers as a kind and its price: none where the name is unknown or a number out of range
abbrev pub listing_from : Option Kind → Option Price → Option Listing
listing_from (Some kind) (Some price) = Some (record { kind = kind; price = price })
listing_from _ _ = None

-- a name and two numbers, as nodes
abbrev pub listing_of : Tree → Tree → Tree → Option Listing
listing_of (prim name annots args) (int base) (int coefficient) = listing_from (kind_named name) (price_from base coefficient)
listing_of _ _ _ = None

-- what a row lists; its form is that of `is_row`
abbrev pub listing : Tree → Option Listing
listing (prim word annots (more name (more base (more coefficient none)))) = listing_of name base coefficient
listing _ = None

-- the table with what a row lists, for the rows behind it; or the row's location, where it lists nothing or a kind
-- that is listed already
abbrev pub row_over : Listed → ℕ → Option Listing → (Listed → Result Listed ℕ) → Result Listed ℕ
row_over listed location None behind = Err location
row_over listed location (Some l) behind =
    if is_some (listed l.kind) then Err location else behind (with_price listed l.kind l.price)

-- the table of rows over what is listed already, or the location of the first bad row; the first row has a location
-- and the others follow in pre-order
abbrev pub rows_over : Listed → ℕ → Trees → Result Listed ℕ
rows_over listed location none = Ok listed
rows_over listed location (more row rows) =
    row_over listed location (listing row) (λ more_listed. rows_over more_listed (location + size row) rows)

-- the table that a sequence of rows spells, or the location of its first bad row
abbrev pub table_of : Tree → Result Listed ℕ
table_of (seq rows) = rows_over nothing_listed 1 rows
table_of _ = Err 0
