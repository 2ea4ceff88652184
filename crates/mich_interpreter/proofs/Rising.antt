-- MAP makes the entries of a map by key.
use Rattle.std.proofs.Common.{◌≡◌, ℕ, suc, List, [], ◌∷◌, ◌++◌, length, map, reverse, refl, ap, ◌∙◌, subst}
use Rattle.std.specs.declared.cmp.Ordering.TheVariants.{Less, Greater}
use Rattle.std.specs.Ordering.{match_ordering, ordering_reverse}
use Rattle.rules_data.specs.types.Kind.{Kind}
use Rattle.rules_code.specs.instructions.Context.{Context}
use Rattle.rules_data.specs.values.Val.{Val, Pairs, no_pair, more_pairs}
use Rattle.rules_data.specs.values.Val as v
use Rattle.rules_data.specs.values.Tables.{AreKeysAbove, AreIncreasingKeys}
use Rattle.rules_code.specs.typing.Fits.{Known, Fits}
use Rattle.rules_code.specs.evaluation.Operations.{Tally}
use Rattle.rules_code.specs.evaluation.Outcome.{Outcome}
use Rattle.rules_code.specs.evaluation.Items.{with_items, with_values, rebuilt}
use Rattle.mich_term.specs.View.{datum}
use Rattle.mich_term.specs.Keyed.{by, with}
use Rattle.mich_term.specs.declared.datum.Datum.{Datum}
use Rattle.mich_term.specs.declared.value.Value.{Value}
use Rattle.mich_term.proofs.ForCallers.{by_lawful}
use Rattle.mich_stack.specs.Views.{Sight}
use Rattle.mich_instr.specs.Code.{Codes}
use Rattle.mich_instr.specs.Typed.{IsMapped, to_list, to_option, to_map}
use Rattle.mich_frames.specs.Around.{Around}
use Rattle.mich_frames.specs.Pending.{Pending}
use Rattle.mich_frames.specs.Fine.{IsFine}
use Rattle.mich_frames.specs.Frames.{Frame, Rests}
use Rattle.mich_frames.specs.Frames as fr
use Rattle.mich_frames.specs.Stands.{StandsAt}
use Rattle.mich_interpreter.specs.Items.{entry_pair}
use Rattle.mich_interpreter.specs.Made.{Entry, AreKeysBelow, keyed, key_of, value_in, making_of}
use Rattle.mich_interpreter.specs.declared.made.OverTable.{OverTable}
use Rattle.mich_interpreter.specs.declared.made.Making.TheVariants as making

-- ---- what a map is rebuilt to

above_with : (x : Val) (ps : Pairs) (zs : List Val) → AreKeysAbove x ps → AreKeysAbove x (with_values ps zs)
above_with x no_pair zs h = tt
above_with x (more_pairs j y ps) [] h = tt
above_with x (more_pairs j y ps) (z ∷ zs) h = (h.0, above_with x ps zs h.1)

increasing_with : (ps : Pairs) (zs : List Val) → AreIncreasingKeys ps → AreIncreasingKeys (with_values ps zs)
increasing_with no_pair zs h = tt
increasing_with (more_pairs j y ps) [] h = tt
increasing_with (more_pairs j y ps) (z ∷ zs) h = (above_with j ps zs h.0, increasing_with ps zs h.1)

-- a collection of its type that is rebuilt to a map is a map
rebuilt_increasing : (w : Known) (s a b r : Kind) → IsMapped s a b r → (origin : Val) → Fits w s origin → (zs : List Val) (ps : Pairs) →
    rebuilt origin zs ≡ v.table ps → AreIncreasingKeys ps
rebuilt_increasing w _ _ _ _ to_list (v.list xs) fits zs ps e = absurd cc
rebuilt_increasing w _ _ _ _ to_list origin fits zs ps e = absurd fits
rebuilt_increasing w _ _ _ _ to_option v.nothing fits zs ps e = absurd cc
rebuilt_increasing w _ _ _ _ to_option (v.some x) fits [] ps e = absurd cc
rebuilt_increasing w _ _ _ _ to_option (v.some x) fits (z ∷ zs) ps e = absurd cc
rebuilt_increasing w _ _ _ _ to_option origin fits zs ps e = absurd fits
rebuilt_increasing w _ _ _ _ to_map (v.table qs) fits zs ps e = let same : with_values qs zs ≡ ps = cc in subst AreIncreasingKeys same (increasing_with qs zs fits.1)
rebuilt_increasing w _ _ _ _ to_map origin fits zs ps e = absurd fits

module _ {fs : List Frame} {u : Around} {m : Tally} {d : ℕ} {Z : List Kind} {o : Outcome} where
  -- while a result is made, the keys of the map that is gone over increase
  pub making_increasing : {is : Codes} (ps : Pairs) (ys xs : List Val) {V : List Val} → StandsAt (fr.making is (v.table ps) ys xs ∷ fs) u V m d Z o →
      (zs : List Val) → length zs ≡ suc (length xs) → AreIncreasingKeys (with_values ps (ys ++ zs))
  making_increasing {is = is} ps ys xs {V = V} h zs count = of (v.table ps) refl h.pending h.context h.types h.rests h.holds
    where
      of : (over : Val) → over ≡ v.table ps → (pending : List Pending) (c : Context) (A : List Kind) → Rests (fr.making is over ys xs ∷ fs) pending u c A Z →
          IsFine u c pending A V m.issued m.changes → AreIncreasingKeys (with_values ps (ys ++ zs))
      of _ e _ c _ (fr.rests_making {ps = below} {m = w} fine rests) holds =
          let g = holds.pending.0 in
          rebuilt_increasing _ w.collection w.item w.result (with_items w.collection w.result) g.kinds g.origin g.fits (ys ++ zs) (with_values ps (ys ++ zs))
          (g.alike zs count ∙ ap (λ over. rebuilt over (ys ++ zs)) e)

-- ---- the entries that are made

module _ (big : Sight) (k : Datum) (ks : List Datum) (z : Val) (zs : List Val) where
  -- a map with the entries that are made before one at k
  abbrev made_before : List Entry → Pairs
  made_before es = with_values (keyed (map key_of es ++ k ∷ ks)) (map (value_in big) es ++ z ∷ zs)

  above_it : (j : Datum) (es : List Entry) → AreKeysAbove (datum j) (made_before es) → by j k ≡ Less
  above_it j [] h = h.0
  above_it j (e ∷ es) h = above_it j es h.1

  keys_below : (es : List Entry) → AreIncreasingKeys (made_before es) → AreKeysBelow k es
  keys_below [] h = tt
  keys_below (e ∷ es) h = (above_it (key_of e) es h.0, keys_below es h.1)

module _ (big : Sight) {is : Codes} {fs : List Frame} {u : Around} {m : Tally} {d : ℕ} {Z : List Kind} {o : Outcome} {V : List Val} where
  -- the key of the entry that is made is above those that are made already
  pub made_below : (w : OverTable) (k : Datum) → StandsAt (making_of big is (making.Entry w k) ∷ fs) u V m d Z o → AreKeysBelow k w.made
  made_below w k h =
      let ks : List Datum = map key_of (reverse w.left) in
      let xs : List Val = map (entry_pair big) (reverse w.left) in
      keys_below big k ks v.unit xs w.made
      (making_increasing (keyed (map key_of w.made ++ k ∷ ks)) (map (value_in big) w.made) xs h (v.unit ∷ xs) refl)

-- an entry goes behind those with keys below its own
pub put_behind : (es : List Entry) (k : Datum) (x : Value) → AreKeysBelow k es → with k x es ≡ es ++ (k, x) ∷ []
put_behind [] k x h = refl
put_behind (e ∷ es) k x h =
    let above : by k (key_of e) ≡ Greater = by_lawful.antisymm k (key_of e) ∙ ap ordering_reverse h.0 in
    ap (λ w. match_ordering w ((k, x) ∷ e ∷ es) ((e.0, x) ∷ es) (e ∷ with k x es)) above ∙ ap (λ l. e ∷ l) (put_behind es k x h.1)
