-- Each price that a table lists costs some gas.
use Rattle.std.proofs.Common.{◌≡◌, ◌≤◌, ◌+◌, ◌&&◌, ℕ, ℤ, pos, int_le, unsigned_abs, Bool, true, false, Some, None, Ok, Err, is_some, unwrap_or, refl, sym, subst, arith, if◌then◌else◌}
use Rattle.std.specs.declared.option.Option.{Option}
use Rattle.std.specs.Prelude.{Result}
use Rattle.rules_text.specs.nodes.Limits.{most_price}
use Rattle.rules_text.specs.nodes.Tree.{Tree, int, str, bytes, prim, seq, Trees, none, more, size}
use Rattle.rules_data.specs.declared.gas.Kind.{Kind}
use Rattle.rules_data.specs.gas.Kinds.{is_same_kind, kind_named}
use Rattle.rules_data.specs.gas.Prices.{Price, Listed, nothing_listed, standard_price, with_price}
use Rattle.rules_data.specs.gas.Tables.{Listing, is_between, price_from, listing_from, listing_of, listing, row_over, rows_over, table_of}
use Rattle.laws_code.specs.evaluation.Laws.{IsCharged}

pub nothing_charged : IsCharged nothing_listed
nothing_charged kind = omega arith

at_least_one : (b : ℤ) → int_le (pos 1) b ≡ true → 1 ≤ unsigned_abs b
at_least_one b h = grind arith

price_charged : (b c : ℤ) (p : Price) → price_from b c ≡ Some p → 1 ≤ p.base
price_charged b c p h = by (int_le (pos 1) b) refl (int_le b (pos most_price)) (is_between (pos 0) (pos most_price) c) h
  where
    made : Option Price
    made = Some (record { base = unsigned_abs b; coefficient = unsigned_abs c })

    by : (l : Bool) → int_le (pos 1) b ≡ l → (m r : Bool) → (if (l && m) && r then made else None) ≡ Some p → 1 ≤ p.base
    by true e true true i = let same : p ≡ record { base = unsigned_abs b; coefficient = unsigned_abs c } = cc in subst (λ q. 1 ≤ q.base) (sym same) (at_least_one b e)
    by true e true false i = absurd cc
    by true e false r i = absurd cc
    by false e m r i = absurd cc

from_charged : (k : Option Kind) (q : Option Price) (l : Listing) → ((p : Price) → q ≡ Some p → 1 ≤ p.base) → listing_from k q ≡ Some l → 1 ≤ l.price.base
from_charged (Some k) (Some p) l f h = let same : l ≡ record { kind = k; price = p } = cc in subst (λ x. 1 ≤ x.price.base) (sym same) (f p refl)
from_charged (Some k) None l f h = absurd cc
from_charged None (Some p) l f h = absurd cc
from_charged None None l f h = absurd cc

of_charged : (n b c : Tree) (l : Listing) → listing_of n b c ≡ Some l → 1 ≤ l.price.base
of_charged (prim name annots args) (int b) (int c) l h = from_charged (kind_named name) (price_from b c) l (price_charged b c) h
of_charged (prim name annots args) (int b) (str s) l h = absurd cc
of_charged (prim name annots args) (int b) (bytes s) l h = absurd cc
of_charged (prim name annots args) (int b) (prim n as' ts) l h = absurd cc
of_charged (prim name annots args) (int b) (seq ts) l h = absurd cc
of_charged (prim name annots args) (str s) c l h = absurd cc
of_charged (prim name annots args) (bytes s) c l h = absurd cc
of_charged (prim name annots args) (prim n as' ts) c l h = absurd cc
of_charged (prim name annots args) (seq ts) c l h = absurd cc
of_charged (int n) b c l h = absurd cc
of_charged (str n) b c l h = absurd cc
of_charged (bytes n) b c l h = absurd cc
of_charged (seq n) b c l h = absurd cc

listing_charged : (t : Tree) (l : Listing) → listing t ≡ Some l → 1 ≤ l.price.base
listing_charged (prim word annots (more name (more base (more coefficient none)))) l h = of_charged name base coefficient l h
listing_charged (prim word annots (more name (more base (more coefficient (more t ts))))) l h = absurd cc
listing_charged (prim word annots (more name (more base none))) l h = absurd cc
listing_charged (prim word annots (more name none)) l h = absurd cc
listing_charged (prim word annots none) l h = absurd cc
listing_charged (int n) l h = absurd cc
listing_charged (str s) l h = absurd cc
listing_charged (bytes s) l h = absurd cc
listing_charged (seq ts) l h = absurd cc

with_charged : (l : Listed) (k : Kind) (p : Price) → IsCharged l → 1 ≤ p.base → IsCharged (with_price l k p)
with_charged l k p h b other =
    elim (is_same_kind other k) as (λ t. 1 ≤ (unwrap_or (if t then Some p else l other) standard_price).base) [ true ↦ b | false ↦ h other ]

rows_charged : (rows : Trees) (l : Listed) (at : ℕ) (p : Listed) → IsCharged l → rows_over l at rows ≡ Ok p → IsCharged p
rows_charged none l at p h e = let same : p ≡ l = cc in subst IsCharged (sym same) h
rows_charged (more row rows) l at p h e = by (λ m charged f. rows_charged rows m (at + size row) p charged f) (listing row) refl e
  where
    behind : Listed → Result Listed ℕ
    behind more_listed = rows_over more_listed (at + size row) rows

    Rest : Type 0
    Rest = (m : Listed) → IsCharged m → rows_over m (at + size row) rows ≡ Ok p → IsCharged p

    put : Rest → (x : Listing) → listing row ≡ Some x → (t : Bool) →
        (if t then Err at else behind (with_price l x.kind x.price)) ≡ Ok p → IsCharged p
    put rest x i true f = absurd cc
    put rest x i false f = rest (with_price l x.kind x.price) (with_charged l x.kind x.price h (listing_charged row x i)) f

    by : Rest → (o : Option Listing) → listing row ≡ o → row_over l at o behind ≡ Ok p → IsCharged p
    by rest None i f = absurd cc
    by rest (Some x) i f = put rest x i (is_some (l x.kind)) f

pub table_charged : (t : Tree) (p : Listed) → table_of t ≡ Ok p → IsCharged p
table_charged (seq rows) p e = rows_charged rows nothing_listed 1 p nothing_charged e
table_charged (int n) p e = absurd cc
table_charged (str s) p e = absurd cc
table_charged (bytes s) p e = absurd cc
table_charged (prim n as' ts) p e = absurd cc
