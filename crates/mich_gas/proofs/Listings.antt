-- Rows and what they list.
use Rattle.std.proofs.Common.{◌≡◌, ℕ, List, [], ◌∷◌, refl, ap, ◌∙◌, arith, sym, true, false, drop, get_or, ◌<◌, length, add-one, drop-cons, suc}
use Rattle.std.specs.Prelude.{Some, None, ◌+◌, ◌&&◌, Bool, IsTrue, codes, is_some, Result}
use Rattle.std.proofs.lemmas.Bool.{false≢true}
use Rattle.std.specs.Str.{bytes_eq}
use Rattle.rules_text.specs.nodes.Tree.{Tree, Trees, int, prim, none, more, size, sizes}
use Rattle.rules_data.specs.gas.Tables.{Listing, listing, listing_of, are_fields, is_row, are_rows, row_over, rows_over}
use Rattle.rules_data.specs.gas.Prices.{Listed, with_price}
use Rattle.mich_base.specs.View.{tree, trees}
use Rattle.mich_base.specs.declared.node.Node.{Node}
use Rattle.mich_base.specs.Counted.{IsNotThree}

pub no_listing : (word : List ℕ) (annots : List (List ℕ)) (args : List Node) → IsNotThree args → None ≡ listing (prim word annots (trees args))
no_listing word annots [] h = refl
no_listing word annots (x ∷ []) h = refl
no_listing word annots (x ∷ y ∷ []) h = refl
no_listing word annots (x ∷ y ∷ z ∷ []) h = absurd h
no_listing word annots (x ∷ y ∷ z ∷ w ∷ ws) h = refl

pub listing_of_three : (word : List ℕ) (annots : List (List ℕ)) (args : List Node) (x y z : Node) → args ≡ x ∷ y ∷ z ∷ [] → listing (prim word annots (trees args)) ≡ listing_of (tree x) (tree y) (tree z)
listing_of_three word annots args x y z e = ap (λ xs. listing (prim word annots (trees xs))) e

both_true : (a b : Bool) → IsTrue (a && b) → IsTrue a × IsTrue b
both_true true b h = (refl, h)
both_true false b h = absurd (false≢true h)

size_of_fields : (name base coefficient : Tree) → IsTrue (are_fields name base coefficient) → size name + (size base + (size coefficient + 0)) ≡ 3
size_of_fields (prim name [] none) (int base) (int coefficient) h = refl
size_of_fields _ _ _ h = absurd (false≢true h)

-- a row has four nodes
pub size_of_row : (row : Tree) → IsTrue (is_row row) → size row ≡ 4
size_of_row (prim word [] (more name (more base (more coefficient none)))) h = omega (arith, size_of_fields name base coefficient (both_true (bytes_eq word (codes "Cost")) (are_fields name base coefficient) h).1)
size_of_row _ h = absurd (false≢true h)

-- a row that lists a new kind, and the rows behind it
pub row_taken : (before after : Listed) (location nodes : ℕ) (total : Result Listed ℕ) (row : Tree) (rows : Trees) (found : Listing) → rows_over before location (more row rows) ≡ total → IsTrue (are_rows (more row rows)) → location + sizes (more row rows) ≡ nodes → Some found ≡ listing row → is_some (before found.kind) ≡ false → after ≡ with_price before found.kind found.price → (rows_over after (location + 4) rows ≡ total) × IsTrue (are_rows rows) × (location + 4 + sizes rows ≡ nodes)
row_taken before after location nodes total row rows found over rows_are places is_found is_new is_after =
    (sym taken ∙ over, both.1, omega (arith, size_of_row row both.0))
  where
    both : IsTrue (is_row row) × IsTrue (are_rows rows)
    both = both_true (is_row row) (are_rows rows) rows_are

    behind : Listed → Result Listed ℕ
    behind listed = rows_over listed (location + size row) rows

    fresh : row_over before location (Some found) behind ≡ behind (with_price before found.kind found.price)
    fresh = rw is_new refl

    taken : rows_over before location (more row rows) ≡ rows_over after (location + 4) rows
    taken = ap (λ o. row_over before location o behind) (sym is_found) ∙ fresh ∙ ap behind (sym is_after) ∙ ap (λ n. rows_over after (location + n) rows) (size_of_row row both.0)

-- the trees of what is left begin with that of the next node
pub trees_left : (nodes : List Node) (i : ℕ) (node : Node) → i < length nodes → node ≡ get_or nodes i node → trees (drop i nodes) ≡ more (tree node) (trees (drop (i + 1) nodes))
trees_left nodes i node within is_node =
    ap trees (drop-cons nodes i node within) ∙ ap (λ n. more (tree n) (trees (drop (suc i) nodes))) (sym is_node) ∙ ap (λ k. more (tree node) (trees (drop k nodes))) (sym (add-one i))
