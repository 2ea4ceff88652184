-- The prices of a table are in their range.
use Rattle.std.proofs.Common.{◌≡◌, ◌+◌, ◌&&◌, suc, ℕ, ℤ, pos, int_le, nat_le, unsigned_abs, Bool, true, false, List, [], ◌∷◌, map, length, Some, None, Ok, Err, is_some, unwrap_or, refl, sym, ap, subst, arith, if◌then◌else◌}
use Rattle.std.specs.declared.option.Option.{Option}
use Rattle.std.specs.Prelude.{Result}
use Rattle.std.specs.List.{All, list_all}
use Rattle.std.proofs.lemmas.Bool.{and_parts, leb-true, and_from}
use Rattle.std.proofs.lemmas.Bool.Decides.{nat_tests}
use Rattle.std.proofs.lemmas.List.Elements.{All-nil, All-cons}
use Rattle.rules_text.specs.nodes.Limits.{most_price}
use Rattle.rules_text.specs.nodes.Tree.{Tree, int, str, bytes, prim, seq, Trees, none, more, size}
use Rattle.rules_data.specs.declared.gas.Kind.{Kind}
use Rattle.rules_data.specs.gas.Kinds.{is_same_kind, kind_named, kinds_by_name}
use Rattle.rules_data.specs.gas.Prices.{Price, Listed, nothing_listed, standard_price, with_price, price_of}
use Rattle.rules_data.specs.gas.Tables.{Listing, is_between, price_from, listing_from, listing_of, listing, row_over, rows_over, table_of}
use Rattle.rules_files.specs.snapshots.Course.{all_prices}
use Rattle.rules_files.specs.snapshots.Rules.{is_price, is_standard}
use Rattle.rules_files.specs.snapshots.Spelt.{IsSpeltPrice}

abbrev pub ArePriced : Listed → Type 0
ArePriced l = (kind : Kind) → is_price (price_of l kind) ≡ true

pub nothing_priced : ArePriced nothing_listed
nothing_priced kind = refl

at_least : (b : ℤ) → int_le (pos 1) b ≡ true → nat_le 1 (unsigned_abs b) ≡ true
at_least b h = grind (arith, nat_tests)

at_most : (low b : ℤ) → int_le (pos 0) low ≡ true → int_le low b ≡ true → int_le b (pos most_price) ≡ true → nat_le (unsigned_abs b) most_price ≡ true
at_most low b z l h = grind (arith, nat_tests)

from_priced : (b c : ℤ) (p : Price) → price_from b c ≡ Some p → is_price p ≡ true
from_priced b c p h = by (is_between (pos 1) (pos most_price) b) (is_between (pos 0) (pos most_price) c) refl refl h
  where
    made : Price
    made = record { base = unsigned_abs b; coefficient = unsigned_abs c }

    priced : is_between (pos 1) (pos most_price) b ≡ true → is_between (pos 0) (pos most_price) c ≡ true → is_price made ≡ true
    priced e f =
        let bs = and_parts (int_le (pos 1) b) (int_le b (pos most_price)) e in
        let cs = and_parts (int_le (pos 0) c) (int_le c (pos most_price)) f in
        and_from (nat_le 1 (unsigned_abs b) && nat_le (unsigned_abs b) most_price) (nat_le (unsigned_abs c) most_price)
        (and_from (nat_le 1 (unsigned_abs b)) (nat_le (unsigned_abs b) most_price) (at_least b bs.0) (at_most (pos 1) b refl bs.0 bs.1))
        (at_most (pos 0) c refl cs.0 cs.1)

    by : (l r : Bool) → is_between (pos 1) (pos most_price) b ≡ l → is_between (pos 0) (pos most_price) c ≡ r →
        (if l && r then Some made else None) ≡ Some p → is_price p ≡ true
    by true true e f i = let same : made ≡ p = cc in subst (λ q. is_price q ≡ true) same (priced e f)
    by true false e f i = absurd cc
    by false r e f i = absurd cc

of_kinds : (k : Option Kind) (q : Option Price) (l : Listing) → ((p : Price) → q ≡ Some p → is_price p ≡ true) → listing_from k q ≡ Some l →
    is_price l.price ≡ true
of_kinds (Some k) (Some p) l f h = let same : l ≡ record { kind = k; price = p } = cc in subst (λ x. is_price x.price ≡ true) (sym same) (f p refl)
of_kinds (Some k) None l f h = absurd cc
of_kinds None (Some p) l f h = absurd cc
of_kinds None None l f h = absurd cc

of_priced : (n b c : Tree) (l : Listing) → listing_of n b c ≡ Some l → is_price l.price ≡ true
of_priced (prim name annots args) (int b) (int c) l h = of_kinds (kind_named name) (price_from b c) l (from_priced b c) h
of_priced (prim name annots args) (int b) (str s) l h = absurd cc
of_priced (prim name annots args) (int b) (bytes s) l h = absurd cc
of_priced (prim name annots args) (int b) (prim n as' ts) l h = absurd cc
of_priced (prim name annots args) (int b) (seq ts) l h = absurd cc
of_priced (prim name annots args) (str s) c l h = absurd cc
of_priced (prim name annots args) (bytes s) c l h = absurd cc
of_priced (prim name annots args) (prim n as' ts) c l h = absurd cc
of_priced (prim name annots args) (seq ts) c l h = absurd cc
of_priced (int n) b c l h = absurd cc
of_priced (str n) b c l h = absurd cc
of_priced (bytes n) b c l h = absurd cc
of_priced (seq n) b c l h = absurd cc

listing_priced : (t : Tree) (l : Listing) → listing t ≡ Some l → is_price l.price ≡ true
listing_priced (prim word annots (more name (more base (more coefficient none)))) l h = of_priced name base coefficient l h
listing_priced (prim word annots (more name (more base (more coefficient (more t ts))))) l h = absurd cc
listing_priced (prim word annots (more name (more base none))) l h = absurd cc
listing_priced (prim word annots (more name none)) l h = absurd cc
listing_priced (prim word annots none) l h = absurd cc
listing_priced (int n) l h = absurd cc
listing_priced (str s) l h = absurd cc
listing_priced (bytes s) l h = absurd cc
listing_priced (seq ts) l h = absurd cc

with_priced : (l : Listed) (k : Kind) (p : Price) → ArePriced l → is_price p ≡ true → ArePriced (with_price l k p)
with_priced l k p h b other =
    elim (is_same_kind other k) as (λ t. is_price (unwrap_or (if t then Some p else l other) standard_price) ≡ true) [ true ↦ b | false ↦ h other ]

rows_priced : (rows : Trees) (l : Listed) (at : ℕ) (p : Listed) → ArePriced l → rows_over l at rows ≡ Ok p → ArePriced p
rows_priced none l at p h e = let same : p ≡ l = cc in subst ArePriced (sym same) h
rows_priced (more row rows) l at p h e = by (λ m priced f. rows_priced rows m (at + size row) p priced f) (listing row) refl e
  where
    behind : Listed → Result Listed ℕ
    behind more_listed = rows_over more_listed (at + size row) rows

    Rest : Type 0
    Rest = (m : Listed) → ArePriced m → rows_over m (at + size row) rows ≡ Ok p → ArePriced p

    put : Rest → (x : Listing) → listing row ≡ Some x → (t : Bool) →
        (if t then Err at else behind (with_price l x.kind x.price)) ≡ Ok p → ArePriced p
    put rest x i true f = absurd cc
    put rest x i false f = rest (with_price l x.kind x.price) (with_priced l x.kind x.price h (listing_priced row x i)) f

    by : Rest → (o : Option Listing) → listing row ≡ o → row_over l at o behind ≡ Ok p → ArePriced p
    by rest None i f = absurd cc
    by rest (Some x) i f = put rest x i (is_some (l x.kind)) f

pub table_priced : (t : Tree) (p : Listed) → table_of t ≡ Ok p → ArePriced p
table_priced (seq rows) p e = rows_priced rows nothing_listed 1 p nothing_priced e
table_priced (int n) p e = absurd cc
table_priced (str s) p e = absurd cc
table_priced (bytes s) p e = absurd cc
table_priced (prim n as' ts) p e = absurd cc

-- ---- all prices

each_price : (l : Listed) → ArePriced l → (es : List (List ℕ × Kind)) → list_all is_price (map (λ e. price_of l e.1) es) ≡ true
each_price l h [] = refl
each_price l h (e ∷ es) = and_from (is_price (price_of l e.1)) (list_all is_price (map (λ e. price_of l e.1) es)) (h e.1) (each_price l h es)

pub prices_hold : (l : Listed) → ArePriced l → list_all is_price (all_prices l) ≡ true
prices_hold l h = each_price l h kinds_by_name

small_price : (p : Price) → is_price p ≡ true → IsSpeltPrice p
small_price p h =
    let hs = and_parts (nat_le 1 p.base && nat_le p.base most_price) (nat_le p.coefficient most_price) h in
    let base = leb-true p.base most_price (and_parts (nat_le 1 p.base) (nat_le p.base most_price) hs.0).1 in
    let coefficient = leb-true p.coefficient most_price hs.1 in
    (omega (arith, base), omega (arith, coefficient))

each_spelt : (l : Listed) → ArePriced l → (es : List (List ℕ × Kind)) → All IsSpeltPrice (map (λ e. price_of l e.1) es)
each_spelt l h [] = All-nil IsSpeltPrice
each_spelt l h (e ∷ es) = All-cons IsSpeltPrice (price_of l e.1) (map (λ e. price_of l e.1) es) (small_price (price_of l e.1) (h e.1)) (each_spelt l h es)

pub prices_spelt : (l : Listed) → ArePriced l → All IsSpeltPrice (all_prices l)
prices_spelt l h = each_spelt l h kinds_by_name

each_counted : (l : Listed) (es : List (List ℕ × Kind)) → length (map (λ e. price_of l e.1) es) ≡ length es
each_counted l [] = refl
each_counted l (e ∷ es) = ap (λ (n : ℕ). suc n) (each_counted l es)

pub prices_counted : (l : Listed) → length (all_prices l) ≡ length kinds_by_name
prices_counted l = each_counted l kinds_by_name

each_standard : (es : List (List ℕ × Kind)) → list_all is_standard (map (λ e. price_of nothing_listed e.1) es) ≡ true
each_standard [] = refl
each_standard (e ∷ es) = each_standard es

pub standard : list_all is_standard (all_prices nothing_listed) ≡ true
standard = each_standard kinds_by_name
