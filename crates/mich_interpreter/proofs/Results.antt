-- Turns of MAP.
use Rattle.std.proofs.Common.{◌≡◌, ℕ, List, [], ◌∷◌, ◌++◌, map, reverse, append_assoc, sym, ap, ◌∙◌, subst}
use Rattle.std.proofs.lemmas.List.{reverse-reverse, map-append}
use Rattle.rules_data.specs.declared.gas.Kind.TheVariants as g
use Rattle.rules_data.specs.types.Kind.{Kind}
use Rattle.rules_data.specs.values.Val.{Val, no_val}
use Rattle.rules_data.specs.values.Val as v
use Rattle.rules_code.specs.steps.Failure as f
use Rattle.rules_code.specs.evaluation.Items.{elements, entries}
use Rattle.rules_code.specs.evaluation.Operations.{Tally}
use Rattle.rules_code.specs.evaluation.Outcome.{Outcome, failed}
use Rattle.mich_term.specs.declared.datum.Datum.{Datum}
use Rattle.mich_term.specs.declared.value.Value.{Value}
use Rattle.mich_term.specs.declared.value.Value.TheVariants as value
use Rattle.mich_stack.specs.Views.{Sight, seen}
use Rattle.mich_interpreter.specs.Made.{vals_by, pairs_by}
use Rattle.mich_instr.specs.Code.{Codes}
use Rattle.mich_frames.specs.Around.{Around, less, Pays, Lacks}
use Rattle.mich_frames.specs.Frames.{Frame}
use Rattle.mich_frames.specs.Frames as fr
use Rattle.mich_frames.specs.Stands.{StandsAt, OpensAt}
use Rattle.mich_frames.specs.Shapes.{HasTop, items_in}
use Rattle.mich_frames.proofs.ForCallers.{mapping_end, mapping_broke, mapping_opens, making_top, making_ends, remap}
use Rattle.mich_interpreter.specs.Items.{entry_pair}
use Rattle.mich_interpreter.specs.Made.{Entry, keyed, key_of, value_in, list_mapping, table_mapping, making_of}
use Rattle.mich_interpreter.specs.declared.made.OverList.{OverList}
use Rattle.mich_interpreter.specs.declared.made.OverTable.{OverTable}
use Rattle.mich_interpreter.specs.declared.made.Making.{Making}
use Rattle.mich_interpreter.specs.declared.made.Making.TheVariants as making
use Rattle.mich_interpreter.proofs.Listed.{map_reverse, elements_are, val_list}
use Rattle.mich_interpreter.proofs.Mapped.{seen_table, entries_are}
use Rattle.mich_interpreter.proofs.Rebuilt.{seen_some, seen_none, lists_alike, tables_alike, options_alike, rebuilt_list, rebuilt_table}

abbrev pub over_list : Codes → List Val → List Val → Frame
over_list is ys xs = fr.mapping is (v.list no_val) ys xs

abbrev pub over_table : Codes → List Datum → List Val → List Val → Frame
over_table is ks ys xs = fr.mapping is (v.table (keyed ks)) ys xs

module _ (big : Sight) {is : Codes} {fs : List Frame} {u : Around} {m : Tally} {d : ℕ} {Z : List Kind} {o : Outcome} {V : List Val} where
  -- ---- lists

  pub list_ends : (w : OverList) → w.left ≡ [] → StandsAt (list_mapping big is w ∷ fs) u V m d Z o → StandsAt fs u (seen big (value.List w.made) ∷ V) m d Z o
  list_ends w e h =
      let one : StandsAt (over_list is (map (seen big) w.made) [] ∷ fs) u V m d Z o = subst (λ l. StandsAt (over_list is (map (seen big) w.made) (map (seen big) (reverse l)) ∷ fs) u V m d Z o) e h in
      subst (λ y. StandsAt fs u (y ∷ V) m d Z o) (rebuilt_list big w.made ∙ sym (val_list big w.made)) (mapping_end one)

  list_has : (w : OverList) (rest : List Value) (x : Value) → w.left ≡ rest ++ x ∷ [] → StandsAt (list_mapping big is w ∷ fs) u V m d Z o → StandsAt (over_list is (map (seen big) w.made) (seen big x ∷ map (seen big) (reverse rest)) ∷ fs) u V m d Z o
  list_has w rest x e h = subst (λ xs. StandsAt (over_list is (map (seen big) w.made) xs ∷ fs) u V m d Z o) (ap (λ l. map (seen big) (reverse l)) e ∙ map_reverse (seen big) rest x) h

  pub list_breaks : (w : OverList) (rest : List Value) (x : Value) → w.left ≡ rest ++ x ∷ [] → Lacks u g.Turn 0 m → StandsAt (list_mapping big is w ∷ fs) u V m d Z o → o ≡ failed f.out_of_gas
  list_breaks w rest x e lacks h = mapping_broke (seen big x) (map (seen big) (reverse rest)) lacks (list_has w rest x e h)

  pub list_opens : (w w' : OverList) (x : Value) → w.left ≡ w'.left ++ x ∷ [] → w'.made ≡ w.made → Pays u g.Turn 0 m → StandsAt (list_mapping big is w ∷ fs) u V m d Z o →
      OpensAt is (making_of big is (making.Value w') ∷ fs) u (seen big x ∷ V) (less u g.Turn 0 m) d Z o
  list_opens w w' x e same pays h =
      subst (λ ms. OpensAt is (fr.making is (v.list no_val) (map (seen big) ms) (map (seen big) (reverse w'.left)) ∷ fs) u (seen big x ∷ V) (less u g.Turn 0 m) d Z o) (sym same)
      (mapping_opens (seen big x) (map (seen big) (reverse w'.left)) pays (list_has w w'.left x e h))

  pub value_made : (w w' : OverList) (r : Value) → w'.left ≡ w.left → w'.made ≡ w.made ++ r ∷ [] → StandsAt (making_of big is (making.Value w) ∷ fs) u (seen big r ∷ V) m d Z o → StandsAt (list_mapping big is w' ∷ fs) u V m d Z o
  value_made w w' r same e h =
      let one : StandsAt (over_list is (map (seen big) w.made ++ seen big r ∷ []) (map (seen big) (reverse w.left)) ∷ fs) u V m d Z o = making_ends (seen big r) h in
      let two : StandsAt (over_list is (map (seen big) w'.made) (map (seen big) (reverse w.left)) ∷ fs) u V m d Z o =
      subst (λ ys. StandsAt (over_list is ys (map (seen big) (reverse w.left)) ∷ fs) u V m d Z o) (sym (ap (map (seen big)) e ∙ map-append (seen big) w.made (r ∷ []))) one in
      subst (λ l. StandsAt (over_list is (map (seen big) w'.made) (map (seen big) (reverse l)) ∷ fs) u V m d Z o) (sym same) two

  pub list_begins : (x : Value) (xs : List Value) (w : OverList) → x ≡ value.List xs → w.left ≡ reverse xs → w.made ≡ [] → StandsAt (fr.mapping is (seen big x) [] (items_in (seen big x)) ∷ fs) u V m d Z o → StandsAt (list_mapping big is w ∷ fs) u V m d Z o
  list_begins x xs w shape left made h =
      let listed : seen big x ≡ v.list (vals_by big xs) = ap (seen big) shape ∙ val_list big xs in
      let one : StandsAt (fr.mapping is (v.list (vals_by big xs)) [] (elements (vals_by big xs)) ∷ fs) u V m d Z o = subst (λ y. StandsAt (fr.mapping is y [] (items_in y) ∷ fs) u V m d Z o) listed h in
      let two : StandsAt (over_list is [] (elements (vals_by big xs)) ∷ fs) u V m d Z o = remap (v.list (vals_by big xs)) (v.list no_val) [] (elements (vals_by big xs)) (lists_alike (vals_by big xs) (elements (vals_by big xs))) one in
      let same : elements (vals_by big xs) ≡ map (seen big) (reverse w.left) =
      elements_are (map (seen big) xs) ∙ ap (map (seen big)) (sym (ap reverse left ∙ reverse-reverse xs)) in
      let three : StandsAt (over_list is [] (map (seen big) (reverse w.left)) ∷ fs) u V m d Z o = subst (λ ys. StandsAt (over_list is [] ys ∷ fs) u V m d Z o) same two in
      subst (λ ms. StandsAt (over_list is (map (seen big) ms) (map (seen big) (reverse w.left)) ∷ fs) u V m d Z o) (sym made) three

  -- ---- maps

  pub table_ends : (w : OverTable) → w.left ≡ [] → StandsAt (table_mapping big is w ∷ fs) u V m d Z o → StandsAt fs u (seen big (value.Map w.made) ∷ V) m d Z o
  table_ends w e h =
      let one : StandsAt (over_table is (map key_of w.made ++ []) (map (value_in big) w.made) [] ∷ fs) u V m d Z o =
      subst (λ l. StandsAt (over_table is (map key_of w.made ++ map key_of (reverse l)) (map (value_in big) w.made) (map (entry_pair big) (reverse l)) ∷ fs) u V m d Z o) e h in
      subst (λ y. StandsAt fs u (y ∷ V) m d Z o) (rebuilt_table big w.made ∙ sym (seen_table big w.made)) (mapping_end one)

  table_has : (w : OverTable) (rest : List Entry) (x : Entry) → w.left ≡ rest ++ x ∷ [] → StandsAt (table_mapping big is w ∷ fs) u V m d Z o →
      StandsAt (over_table is (map key_of w.made ++ key_of x ∷ map key_of (reverse rest)) (map (value_in big) w.made) (entry_pair big x ∷ map (entry_pair big) (reverse rest)) ∷ fs) u V m d Z o
  table_has w rest x e h =
      let one = ap (λ l. map key_of (reverse l)) e ∙ map_reverse key_of rest x in
      let two = ap (λ l. map (entry_pair big) (reverse l)) e ∙ map_reverse (entry_pair big) rest x in
      let base : StandsAt (over_table is (map key_of w.made ++ key_of x ∷ map key_of (reverse rest)) (map (value_in big) w.made) (map (entry_pair big) (reverse w.left)) ∷ fs) u V m d Z o =
      subst (λ ks. StandsAt (over_table is (map key_of w.made ++ ks) (map (value_in big) w.made) (map (entry_pair big) (reverse w.left)) ∷ fs) u V m d Z o) one h in
      subst (λ xs. StandsAt (over_table is (map key_of w.made ++ key_of x ∷ map key_of (reverse rest)) (map (value_in big) w.made) xs ∷ fs) u V m d Z o) two base

  pub table_breaks : (w : OverTable) (rest : List Entry) (x : Entry) → w.left ≡ rest ++ x ∷ [] → Lacks u g.Turn 0 m → StandsAt (table_mapping big is w ∷ fs) u V m d Z o → o ≡ failed f.out_of_gas
  table_breaks w rest x e lacks h = mapping_broke (entry_pair big x) (map (entry_pair big) (reverse rest)) lacks (table_has w rest x e h)

  pub table_opens : (w w' : OverTable) (x : Entry) → w.left ≡ w'.left ++ x ∷ [] → w'.made ≡ w.made → Pays u g.Turn 0 m → StandsAt (table_mapping big is w ∷ fs) u V m d Z o →
      OpensAt is (making_of big is (making.Entry w' (key_of x)) ∷ fs) u (entry_pair big x ∷ V) (less u g.Turn 0 m) d Z o
  table_opens w w' x e same pays h =
      subst (λ ms. OpensAt is (fr.making is (v.table (keyed (map key_of ms ++ key_of x ∷ map key_of (reverse w'.left)))) (map (value_in big) ms) (map (entry_pair big) (reverse w'.left)) ∷ fs) u (entry_pair big x ∷ V) (less u g.Turn 0 m) d Z o) (sym same)
      (mapping_opens (entry_pair big x) (map (entry_pair big) (reverse w'.left)) pays (table_has w w'.left x e h))

  pub entry_made : (w w' : OverTable) (k : Datum) (r : Value) → w'.left ≡ w.left → w'.made ≡ w.made ++ (k, r) ∷ [] → StandsAt (making_of big is (making.Entry w k) ∷ fs) u (seen big r ∷ V) m d Z o → StandsAt (table_mapping big is w' ∷ fs) u V m d Z o
  entry_made w w' k r same e h =
      let L : List Datum = map key_of (reverse w.left) in
      let xs : List Val = map (entry_pair big) (reverse w.left) in
      let one : StandsAt (over_table is (map key_of w.made ++ k ∷ L) (map (value_in big) w.made ++ seen big r ∷ []) xs ∷ fs) u V m d Z o = making_ends (seen big r) h in
      let keys : map key_of w.made ++ k ∷ L ≡ map key_of w'.made ++ L =
      sym (ap (λ ms. map key_of ms ++ L) e ∙ ap (λ ks. ks ++ L) (map-append key_of w.made ((k, r) ∷ [])) ∙ append_assoc (map key_of w.made) (k ∷ []) L) in
      let made : map (value_in big) w.made ++ seen big r ∷ [] ≡ map (value_in big) w'.made = sym (ap (map (value_in big)) e ∙ map-append (value_in big) w.made ((k, r) ∷ [])) in
      let two : StandsAt (over_table is (map key_of w'.made ++ L) (map (value_in big) w.made ++ seen big r ∷ []) xs ∷ fs) u V m d Z o = subst (λ ks. StandsAt (over_table is ks (map (value_in big) w.made ++ seen big r ∷ []) xs ∷ fs) u V m d Z o) keys one in
      let three : StandsAt (over_table is (map key_of w'.made ++ L) (map (value_in big) w'.made) xs ∷ fs) u V m d Z o = subst (λ ys. StandsAt (over_table is (map key_of w'.made ++ L) ys xs ∷ fs) u V m d Z o) made two in
      subst (λ l. StandsAt (over_table is (map key_of w'.made ++ map key_of (reverse l)) (map (value_in big) w'.made) (map (entry_pair big) (reverse l)) ∷ fs) u V m d Z o) (sym same) three

  pub table_begins : (x : Value) (es : List Entry) (w : OverTable) → x ≡ value.Map es → w.left ≡ reverse es → w.made ≡ [] → StandsAt (fr.mapping is (seen big x) [] (items_in (seen big x)) ∷ fs) u V m d Z o → StandsAt (table_mapping big is w ∷ fs) u V m d Z o
  table_begins x es w shape left made h =
      let tabled : seen big x ≡ v.table (pairs_by big es) = ap (seen big) shape ∙ seen_table big es in
      let one : StandsAt (fr.mapping is (v.table (pairs_by big es)) [] (entries (pairs_by big es)) ∷ fs) u V m d Z o = subst (λ y. StandsAt (fr.mapping is y [] (items_in y) ∷ fs) u V m d Z o) tabled h in
      let two : StandsAt (over_table is (map key_of es) [] (entries (pairs_by big es)) ∷ fs) u V m d Z o =
      remap (v.table (pairs_by big es)) (v.table (keyed (map key_of es))) [] (entries (pairs_by big es)) (tables_alike big es (entries (pairs_by big es))) one in
      let back : es ≡ reverse w.left = sym (ap reverse left ∙ reverse-reverse es) in
      let three : StandsAt (over_table is (map key_of es) [] (map (entry_pair big) es) ∷ fs) u V m d Z o = subst (λ xs. StandsAt (over_table is (map key_of es) [] xs ∷ fs) u V m d Z o) (entries_are big es) two in
      let four : StandsAt (over_table is (map key_of (reverse w.left)) [] (map (entry_pair big) (reverse w.left)) ∷ fs) u V m d Z o =
      subst (λ l. StandsAt (over_table is (map key_of l) [] (map (entry_pair big) l) ∷ fs) u V m d Z o) back three in
      subst (λ ms. StandsAt (over_table is (map key_of ms ++ map key_of (reverse w.left)) (map (value_in big) ms) (map (entry_pair big) (reverse w.left)) ∷ fs) u V m d Z o) (sym made) four

  -- ---- options

  pub part_begins : (x y : Value) → x ≡ value.Some y → StandsAt (fr.mapping is (seen big x) [] (items_in (seen big x)) ∷ fs) u V m d Z o → StandsAt (fr.mapping is (v.some v.unit) [] (seen big y ∷ []) ∷ fs) u V m d Z o
  part_begins x y shape h =
      remap (v.some (seen big y)) (v.some v.unit) [] (seen big y ∷ []) (options_alike (seen big y) (seen big y))
      (subst (λ z. StandsAt (fr.mapping is z [] (items_in z) ∷ fs) u V m d Z o) (ap (seen big) shape ∙ seen_some big y) h)

  pub part_made : (r : Value) → StandsAt (making_of big is making.Part ∷ fs) u (seen big r ∷ V) m d Z o → StandsAt fs u (seen big (value.Some r) ∷ V) m d Z o
  part_made r h = subst (λ y. StandsAt fs u (y ∷ V) m d Z o) (sym (seen_some big r)) (mapping_end (making_ends (seen big r) h))

  pub none_ends : (x : Value) → x ≡ value.None → StandsAt (fr.mapping is (seen big x) [] (items_in (seen big x)) ∷ fs) u V m d Z o → StandsAt fs u (seen big value.None ∷ V) m d Z o
  none_ends x shape h =
      let one : StandsAt (fr.mapping is v.nothing [] [] ∷ fs) u V m d Z o = subst (λ y. StandsAt (fr.mapping is y [] (items_in y) ∷ fs) u V m d Z o) (ap (seen big) shape ∙ seen_none big) h in
      subst (λ y. StandsAt fs u (y ∷ V) m d Z o) (sym (seen_none big)) (mapping_end one)

-- ---- all

module _ (big : Sight) (is : Codes) {fs : List Frame} {u : Around} {m : Tally} {d : ℕ} {Z : List Kind} {o : Outcome} {V : List Val} where
  pub made_top : (w : Making) → StandsAt (making_of big is w ∷ fs) u V m d Z o → HasTop V
  made_top (making.Value w) h = making_top h
  made_top (making.Entry w k) h = making_top h
  made_top making.Part h = making_top h
