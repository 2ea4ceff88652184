-- A map is seen as its entries, a big map as the entries that its overlay puts, and the tickets among them.
use Rattle.std.proofs.Common.{◌≡◌, ℕ, List, [], ◌∷◌, ◌++◌, refl, ap, sym, ◌∙◌}
use Rattle.std.specs.Prelude.{Option, Some, None}
use Rattle.rules_data.specs.values.Val.{Val, Pairs, more_pairs, table}
use Rattle.rules_data.specs.values.Tickets.{tickets, pair_tickets}
use Rattle.mich_term.specs.View.{datum}
use Rattle.mich_term.specs.ValueView.{value_step, big_step, val, pairs, big_pairs, put_pairs}
use Rattle.mich_term.specs.declared.datum.Datum.{Datum}
use Rattle.mich_term.specs.declared.value.Value.{Value, fold-roll-Value}
use Rattle.mich_term.specs.declared.value.Value.TheOpen.{Value-F, BigMap-F}
use Rattle.mich_term.specs.declared.value.Value.TheVariants.{Map, rolls-Map}
use Rattle.mich_term.specs.declared.value.BigMap.{BigMap, out-BigMap}
use Rattle.mich_term.specs.declared.value.Value.TheFolds.{fold_out-BigMap, map-BigMap}

pub table_is : (es : List (Datum × Value)) → val (Map es) ≡ table (pairs es)
table_is es = ap val (sym (rolls-Map es)) ∙ fold-roll-Value Val Pairs value_step big_step (Value-F.Map es)

-- one level of a big map with this overlay
abbrev opened : Option ℕ → List (Datum × Option Value) → BigMap-F Value BigMap
opened base es = record { base = base; overlay = es }

overlay_is : (base : Option ℕ) (es : List (Datum × Option Value))
    → big_step (map-BigMap Value BigMap Val Pairs val big_pairs (opened base es)) ≡ put_pairs es
overlay_is base [] = refl
overlay_is base (e ∷ es) = by_case e.1 (overlay_is base es)
  where
    by_case : (o : Option Value) → big_step (map-BigMap Value BigMap Val Pairs val big_pairs (opened base es)) ≡ put_pairs es
        → big_step (map-BigMap Value BigMap Val Pairs val big_pairs (opened base ((e.0, o) ∷ es))) ≡ put_pairs ((e.0, o) ∷ es)
    by_case None later = later
    by_case (Some v) later = ap (λ ps. more_pairs (datum e.0) (val v) ps) later

pub big_is : (b : BigMap) → big_pairs b ≡ put_pairs (out-BigMap b).overlay
big_is b = fold_out-BigMap Val Pairs value_step big_step b ∙ overlay_is (out-BigMap b).base (out-BigMap b).overlay

pub put_tickets : (iter rest : List (Datum × Option Value)) (k : Datum) (change : Option Value) (v : Value)
    → iter ≡ (k, change) ∷ rest → change ≡ Some v → pair_tickets (put_pairs iter) ≡ tickets (val v) ++ pair_tickets (put_pairs rest)
put_tickets iter rest k change v first put = ap (λ es. pair_tickets (put_pairs es)) (first ∙ ap (λ o. (k, o) ∷ rest) put)
