-- What the parts of a value stand for in a store.
use Rattle.std.proofs.Common.{◌≡◌, ◌≤◌, ℕ, zero, suc, length, take, arith, List, [], ◌∷◌, ◌++◌, map, Some, None, refl, sym, ap, ◌∙◌, subst}
use Rattle.std.specs.Prelude.{option_map}
use Rattle.std.proofs.lemmas.List.{append-nil}
use Rattle.std.specs.declared.option.Option.{Option}
use Rattle.std.specs.declared.cmp.Ordering.{Ordering}
use Rattle.std.specs.declared.cmp.Ordering.TheVariants.{Less, Equal, Greater}
use Rattle.std.specs.Ordering.{match_ordering}
use Rattle.std.specs.Map.{keys_of}
use Rattle.rules_data.specs.values.Val.{Val, Pairs}
use Rattle.rules_data.specs.big_maps.Changes.{written, changed}
use Rattle.mich_term.specs.Keyed.{by, with, IsIncreasing}
use Rattle.mich_term.specs.View.{datum}
use Rattle.mich_term.specs.ValueView.{val, entry, change, value_step}
use Rattle.mich_term.specs.declared.datum.Datum.{Datum}
use Rattle.mich_term.specs.declared.value.Value.{Value}
use Rattle.mich_term.specs.declared.value.Value.TheFolds.{fold_out-BigMap, map-BigMap}
use Rattle.mich_term.specs.declared.value.Value.TheOpen.{BigMap-F}
use Rattle.mich_term.specs.declared.value.BigMap.{BigMap, out-BigMap}
use Rattle.mich_term.proofs.ForCallers.{table_step}
use Rattle.mich_bigmap.specs.Bases.{Bases, Changes, entries_in, seen, seen_change}
use Rattle.mich_bigmap.specs.Standing.{val_in, big_val_in, big_step_in, entry_in, change_step, change_in, changes_in}

abbrev Entries : Type 0
Entries = List (Datum × Value)

entry_placed : (o : Ordering) (a b c : Entries) → map entry (match_ordering o a b c) ≡ match_ordering o (map entry a) (map entry b) (map entry c)
entry_placed Less a b c = refl
entry_placed Equal a b c = refl
entry_placed Greater a b c = refl

with_entry : (k : Datum) (v : Value) (es : Entries) → map entry (with k v es) ≡ with k (val v) (map entry es)
with_entry k v [] = refl
with_entry k v (e ∷ es) = entry_placed (by k e.0) ((k, v) ∷ e ∷ es) ((e.0, v) ∷ es) (e ∷ with k v es)
    ∙ ap (λ t. match_ordering (by k e.0) ((k, val v) ∷ map entry (e ∷ es)) ((e.0, val v) ∷ map entry es) (entry e ∷ t)) (with_entry k v es)

-- one level of a big map with this overlay
abbrev pub opened : Option ℕ → Changes → BigMap-F Value BigMap
opened base cs = record { base = base; overlay = cs }

module _ (bs : Bases) where
  keys_in : (es : Entries) → keys_of (map (entry_in bs) es) ≡ keys_of es
  keys_in [] = refl
  keys_in (e ∷ es) = ap (λ ks. e.0 ∷ ks) (keys_in es)

  -- a map is copied from its least key on
  pub table_next : (copies iter rest all new : Entries) (k d : Datum) (v w : Value) → iter ≡ (k, v) ∷ rest → map entry copies ++ map (entry_in bs) iter ≡ map (entry_in bs) all
      → IsIncreasing (keys_of all) → d ≡ k → val w ≡ val_in bs v → new ≡ with d w copies → map entry new ++ map (entry_in bs) rest ≡ map (entry_in bs) all
  table_next copies iter rest all new k d v w step so_far s e f n =
      table_step (map entry copies) (map (entry_in bs) iter) (map (entry_in bs) rest) (map (entry_in bs) all) (map entry new) k d (val_in bs v) (val w)
      (ap (map (entry_in bs)) step) so_far (subst IsIncreasing (sym (keys_in all)) s) e f (ap (map entry) n ∙ with_entry d w copies)

  -- a big map is seen as the entries of its base, changed by its overlay
  pub opened_is : (base : Option ℕ) (cs : Changes)
      → big_step_in bs (map-BigMap Value BigMap Val Pairs (val_in bs) (big_val_in bs) (opened base cs)) ≡ changed (changes_in bs cs) (entries_in bs base)
  opened_is base [] = refl
  opened_is base (e ∷ es) = by_case e.1 (opened_is base es)
    where
      by_case : (o : Option Value) → big_step_in bs (map-BigMap Value BigMap Val Pairs (val_in bs) (big_val_in bs) (opened base es)) ≡ changed (changes_in bs es) (entries_in bs base)
          → big_step_in bs (map-BigMap Value BigMap Val Pairs (val_in bs) (big_val_in bs) (opened base ((e.0, o) ∷ es))) ≡ changed (changes_in bs ((e.0, o) ∷ es)) (entries_in bs base)
      by_case None later = ap (written (datum e.0) None) later
      by_case (Some v) later = ap (written (datum e.0) (Some (val_in bs v))) later

  pub big_val_is : (m : BigMap) → big_val_in bs m ≡ changed (changes_in bs (out-BigMap m).overlay) (entries_in bs (out-BigMap m).base)
  big_val_is m = fold_out-BigMap Val Pairs value_step (big_step_in bs) m ∙ opened_is (out-BigMap m).base (out-BigMap m).overlay

-- ---- changes

change_placed : (o : Ordering) (a b c : Changes) → map change (match_ordering o a b c) ≡ match_ordering o (map change a) (map change b) (map change c)
change_placed Less a b c = refl
change_placed Equal a b c = refl
change_placed Greater a b c = refl

with_change : (k : Datum) (v : Option Value) (cs : Changes) → map change (with k v cs) ≡ with k (option_map val v) (map change cs)
with_change k v [] = refl
with_change k v (c ∷ cs) = change_placed (by k c.0) ((k, v) ∷ c ∷ cs) ((c.0, v) ∷ cs) (c ∷ with k v cs)
    ∙ ap (λ t. match_ordering (by k c.0) ((k, option_map val v) ∷ map change (c ∷ cs)) ((c.0, option_map val v) ∷ map change cs) (change c ∷ t)) (with_change k v cs)

-- a change with its value seen in a store
abbrev pub put_in : Bases → Datum × Option Value → Datum × Option Val
put_in bs c = (c.0, option_map (val_in bs) c.1)

seen_is : (cs : Changes) → seen cs ≡ map change_step (map change cs)
seen_is [] = refl
seen_is (c ∷ cs) = ap (λ t. seen_change c ∷ t) (seen_is cs)

module _ (bs : Bases) where
  keys_put : (cs : Changes) → keys_of (map (put_in bs) cs) ≡ keys_of cs
  keys_put [] = refl
  keys_put (c ∷ cs) = ap (λ ks. c.0 ∷ ks) (keys_put cs)

  -- changes are copied from the least key on
  pub puts_next : (copies iter rest all new : Changes) (k d : Datum) (v w : Option Value) → iter ≡ (k, v) ∷ rest → map change copies ++ map (put_in bs) iter ≡ map (put_in bs) all
      → IsIncreasing (keys_of all) → d ≡ k → option_map val w ≡ option_map (val_in bs) v → new ≡ with d w copies → map change new ++ map (put_in bs) rest ≡ map (put_in bs) all
  puts_next copies iter rest all new k d v w step so_far s e f n =
      table_step (map change copies) (map (put_in bs) iter) (map (put_in bs) rest) (map (put_in bs) all) (map change new) k d (option_map (val_in bs) v) (option_map val w)
      (ap (map (put_in bs)) step) so_far (subst IsIncreasing (sym (keys_put all)) s) e f (ap (map change) n ∙ with_change d w copies)

  pub puts_end : (copies iter all : Changes) → iter ≡ [] → map change copies ++ map (put_in bs) iter ≡ map (put_in bs) all → map change copies ≡ map (put_in bs) all
  puts_end copies iter all e h = sym (append-nil (map change copies)) ∙ sym (ap (λ cs. map change copies ++ map (put_in bs) cs) e) ∙ h

  changes_are : (cs : Changes) → map change_step (map (put_in bs) cs) ≡ changes_in bs cs
  changes_are [] = refl
  changes_are (c ∷ cs) = ap (λ t. change_in bs c ∷ t) (changes_are cs)

  pub puts_seen : (copies all : Changes) → map change copies ≡ map (put_in bs) all → seen copies ≡ changes_in bs all
  puts_seen copies all h = seen_is copies ∙ ap (map change_step) h ∙ changes_are all

pub taken_all : {A : Type 0} (i : ℕ) (xs : List A) → length xs ≤ i → take i xs ≡ xs
taken_all zero [] le = refl
taken_all (suc i) [] le = refl
taken_all zero (x ∷ xs) le = absurd (omega arith)
taken_all (suc i) (x ∷ xs) le = ap (λ t. x ∷ t) (taken_all i xs (omega arith))

-- an item that was yielded is one less to come
pub moved : {A B : Type 0} (f : A → B) (ys : List A) (y : A) (iter rest all : List B) → iter ≡ f y ∷ rest → map f ys ++ iter ≡ all → map f (ys ++ y ∷ []) ++ rest ≡ all
moved f [] y iter rest all first e = sym first ∙ e
moved f (x ∷ ys) y iter rest [] first e = cc
moved f (x ∷ ys) y iter rest (a ∷ all) first e = let h : f x ≡ a = cc in let t : map f ys ++ iter ≡ all = cc in λ i. h i ∷ moved f ys y iter rest all first t i
