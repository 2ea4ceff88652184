-- What is so of each big map in a value is so of those in its parts, and the other way round.
use Rattle.std.proofs.Common.{◌≡◌, ℕ, ℤ, Bool, List, [], ◌∷◌, map, Some, None, refl, sym, ap, ◌∙◌, subst}
use Rattle.std.specs.Prelude.{option_map}
use Rattle.std.specs.declared.option.Option.{Option}
use Rattle.std.specs.List.{AllByRecursion}
use Rattle.mich_base.specs.declared.node.Node.{Node}
use Rattle.mich_term.specs.declared.datum.Datum.{Datum}
use Rattle.mich_term.specs.declared.ticket.Ticket.{Ticket}
use Rattle.mich_term.specs.declared.value.Value.{Value, roll-Value, out-roll-Value, every-Value, every_held-Value, every_made-Value, map-Value}
use Rattle.mich_term.specs.declared.value.Value.TheOpen.{Value-F, BigMap-F}
use Rattle.mich_term.specs.declared.value.Value.TheFolds.{every-BigMap, every_held-BigMap, every_made-BigMap, every_here-BigMap, map-BigMap}
use Rattle.mich_term.specs.declared.value.BigMap.{BigMap, out-BigMap, roll-BigMap, roll-out-BigMap}
use Rattle.mich_term.specs.declared.value.Value.TheVariants as v
use Rattle.mich_term.specs.declared.value.Value.TheVariants.{rolls-Some, rolls-Left, rolls-Right, rolls-Pair, rolls-List, rolls-Map, rolls-BigMap, rolls-Unit, rolls-Bool, rolls-Number, rolls-Text, rolls-Bytes, rolls-None, rolls-Set, rolls-Lambda, rolls-Operation, rolls-Ticket}
use Rattle.mich_term.specs.Layers.{AnyLayer}

module _ (Q : BigMap-F Value BigMap → Type 0) where
  abbrev pub Each : Value → Type 0
  Each = every-Value AnyLayer Q

  abbrev pub EachBig : BigMap → Type 0
  EachBig = every-BigMap AnyLayer Q

  abbrev pub EachEntry : Datum × Value → Type 0
  EachEntry e = Each e.1

  abbrev pub EachPut : Option Value → Type 0
  EachPut None = Unit {0}
  EachPut (Some x) = Each x

  abbrev pub EachChange : Datum × Option Value → Type 0
  EachChange c = EachPut c.1

  abbrev Held : Type 0
  Held = (x : Value) × Each x

  abbrev HeldBig : Type 0
  HeldBig = (x : BigMap) × EachBig x

  abbrev lowered : Value-F Held HeldBig → Value-F Value BigMap
  lowered z = map-Value Held HeldBig Value BigMap (λ e. e.0) (λ e. e.0) z

  abbrev lowered_big : BigMap-F Held HeldBig → BigMap-F Value BigMap
  lowered_big z = map-BigMap Held HeldBig Value BigMap (λ e. e.0) (λ e. e.0) z

  moved_to : (x y : Value) → x ≡ y → Each x → Each y
  moved_to x y e h = subst Each e h

  big_to : (x y : BigMap) → x ≡ y → EachBig x → EachBig y
  big_to x y e h = subst EachBig e h

  made : (l : Value-F Value BigMap) (z : Value-F Held HeldBig) → lowered z ≡ l → Each (roll-Value l)
  made l z f = every_made-Value AnyLayer Q l z f tt

  in_some_of : (x : Value) (z : Value-F Held HeldBig) → lowered z ≡ Value-F.Some x → Each x
  in_some_of x (Value-F.Some a) e = moved_to a.0 x (cc) a.1
  in_some_of x z e = cc

  pub layer_some : (x : Value) → Each (roll-Value (Value-F.Some x)) → Each x
  layer_some x h = let z = every_held-Value AnyLayer Q _ h in in_some_of x z.0 (z.1 ∙ out-roll-Value (Value-F.Some x))

  pub in_some : (x : Value) → Each (v.Some x) → Each x
  in_some x h = layer_some x (moved_to _ _ (sym (rolls-Some x)) h)

  pub up_some : (x : Value) → Each x → Each (roll-Value (Value-F.Some x))
  up_some x h = made (Value-F.Some x) (Value-F.Some (x, h)) refl

  pub of_some : (x : Value) → Each x → Each (v.Some x)
  of_some x h = moved_to _ _ (rolls-Some x) (up_some x h)

  in_left_of : (x : Value) (z : Value-F Held HeldBig) → lowered z ≡ Value-F.Left x → Each x
  in_left_of x (Value-F.Left a) e = moved_to a.0 x (cc) a.1
  in_left_of x z e = cc

  pub layer_left : (x : Value) → Each (roll-Value (Value-F.Left x)) → Each x
  layer_left x h = let z = every_held-Value AnyLayer Q _ h in in_left_of x z.0 (z.1 ∙ out-roll-Value (Value-F.Left x))

  pub in_left : (x : Value) → Each (v.Left x) → Each x
  in_left x h = layer_left x (moved_to _ _ (sym (rolls-Left x)) h)

  pub up_left : (x : Value) → Each x → Each (roll-Value (Value-F.Left x))
  up_left x h = made (Value-F.Left x) (Value-F.Left (x, h)) refl

  pub of_left : (x : Value) → Each x → Each (v.Left x)
  of_left x h = moved_to _ _ (rolls-Left x) (up_left x h)

  in_right_of : (x : Value) (z : Value-F Held HeldBig) → lowered z ≡ Value-F.Right x → Each x
  in_right_of x (Value-F.Right a) e = moved_to a.0 x (cc) a.1
  in_right_of x z e = cc

  pub layer_right : (x : Value) → Each (roll-Value (Value-F.Right x)) → Each x
  layer_right x h = let z = every_held-Value AnyLayer Q _ h in in_right_of x z.0 (z.1 ∙ out-roll-Value (Value-F.Right x))

  pub in_right : (x : Value) → Each (v.Right x) → Each x
  in_right x h = layer_right x (moved_to _ _ (sym (rolls-Right x)) h)

  pub up_right : (x : Value) → Each x → Each (roll-Value (Value-F.Right x))
  up_right x h = made (Value-F.Right x) (Value-F.Right (x, h)) refl

  pub of_right : (x : Value) → Each x → Each (v.Right x)
  of_right x h = moved_to _ _ (rolls-Right x) (up_right x h)

  in_pair_of : (x y : Value) (z : Value-F Held HeldBig) → lowered z ≡ Value-F.Pair x y → Each x × Each y
  in_pair_of x y (Value-F.Pair a b) e = (moved_to a.0 x (cc) a.1, moved_to b.0 y (cc) b.1)
  in_pair_of x y z e = cc

  pub layer_pair : (x y : Value) → Each (roll-Value (Value-F.Pair x y)) → Each x × Each y
  layer_pair x y h = let z = every_held-Value AnyLayer Q _ h in in_pair_of x y z.0 (z.1 ∙ out-roll-Value (Value-F.Pair x y))

  pub in_pair : (x y : Value) → Each (v.Pair x y) → Each x × Each y
  in_pair x y h = layer_pair x y (moved_to _ _ (sym (rolls-Pair x y)) h)

  pub up_pair : (x y : Value) → Each x → Each y → Each (roll-Value (Value-F.Pair x y))
  up_pair x y h k = made (Value-F.Pair x y) (Value-F.Pair (x, h) (y, k)) refl

  pub of_pair : (x y : Value) → Each x → Each y → Each (v.Pair x y)
  of_pair x y h k = moved_to _ _ (rolls-Pair x y) (up_pair x y h k)

  -- ---- lists

  back_all : (zs : List Held) → AllByRecursion Each (map (λ e. e.0) zs)
  back_all [] = tt
  back_all (z ∷ zs) = (z.1, back_all zs)

  in_list_of : (xs : List Value) (z : Value-F Held HeldBig) → lowered z ≡ Value-F.List xs → AllByRecursion Each xs
  in_list_of xs (Value-F.List zs) e = let p : map (λ e. e.0) zs ≡ xs = cc in subst (AllByRecursion Each) p (back_all zs)
  in_list_of xs z e = cc

  pub layer_list : (xs : List Value) → Each (roll-Value (Value-F.List xs)) → AllByRecursion Each xs
  layer_list xs h = let z = every_held-Value AnyLayer Q _ h in in_list_of xs z.0 (z.1 ∙ out-roll-Value (Value-F.List xs))

  pub in_list : (xs : List Value) → Each (v.List xs) → AllByRecursion Each xs
  in_list xs h = layer_list xs (moved_to _ _ (sym (rolls-List xs)) h)

  up_all : (xs : List Value) → AllByRecursion Each xs → List Held
  up_all [] h = []
  up_all (x ∷ xs) h = (x, h.0) ∷ up_all xs h.1

  up_is : (xs : List Value) (h : AllByRecursion Each xs) → map (λ e. e.0) (up_all xs h) ≡ xs
  unfolding up_all
  up_is [] h = refl
  up_is (x ∷ xs) h = ap (λ ys. x ∷ ys) (up_is xs h.1)

  pub up_list : (xs : List Value) → AllByRecursion Each xs → Each (roll-Value (Value-F.List xs))
  up_list xs h = made (Value-F.List xs) (Value-F.List (up_all xs h)) (ap Value-F.List (up_is xs h))

  pub of_list : (xs : List Value) → AllByRecursion Each xs → Each (v.List xs)
  of_list xs h = moved_to _ _ (rolls-List xs) (up_list xs h)

  -- ---- maps

  abbrev lower_entry : Datum × Held → Datum × Value
  lower_entry e = (e.0, e.1.0)

  back_entries : (zs : List (Datum × Held)) → AllByRecursion EachEntry (map lower_entry zs)
  back_entries [] = tt
  back_entries (z ∷ zs) = (z.1.1, back_entries zs)

  in_map_of : (es : List (Datum × Value)) (z : Value-F Held HeldBig) → lowered z ≡ Value-F.Map es → AllByRecursion EachEntry es
  in_map_of es (Value-F.Map zs) e = let p : map lower_entry zs ≡ es = cc in subst (AllByRecursion EachEntry) p (back_entries zs)
  in_map_of es z e = cc

  pub layer_map : (es : List (Datum × Value)) → Each (roll-Value (Value-F.Map es)) → AllByRecursion EachEntry es
  layer_map es h = let z = every_held-Value AnyLayer Q _ h in in_map_of es z.0 (z.1 ∙ out-roll-Value (Value-F.Map es))

  pub in_map : (es : List (Datum × Value)) → Each (v.Map es) → AllByRecursion EachEntry es
  in_map es h = layer_map es (moved_to _ _ (sym (rolls-Map es)) h)

  up_entries : (es : List (Datum × Value)) → AllByRecursion EachEntry es → List (Datum × Held)
  up_entries [] h = []
  up_entries (e ∷ es) h = (e.0, (e.1, h.0)) ∷ up_entries es h.1

  up_entries_is : (es : List (Datum × Value)) (h : AllByRecursion EachEntry es) → map lower_entry (up_entries es h) ≡ es
  unfolding up_entries
  up_entries_is [] h = refl
  up_entries_is (e ∷ es) h = ap (λ ys. e ∷ ys) (up_entries_is es h.1)

  pub up_map : (es : List (Datum × Value)) → AllByRecursion EachEntry es → Each (roll-Value (Value-F.Map es))
  up_map es h = made (Value-F.Map es) (Value-F.Map (up_entries es h)) (ap Value-F.Map (up_entries_is es h))

  pub of_map : (es : List (Datum × Value)) → AllByRecursion EachEntry es → Each (v.Map es)
  of_map es h = moved_to _ _ (rolls-Map es) (up_map es h)

  -- ---- big maps

  in_big_of : (b : BigMap) (z : Value-F Held HeldBig) → lowered z ≡ Value-F.BigMap b → EachBig b
  in_big_of b (Value-F.BigMap a) e = big_to a.0 b (cc) a.1
  in_big_of b z e = cc

  pub layer_big : (b : BigMap) → Each (roll-Value (Value-F.BigMap b)) → EachBig b
  layer_big b h = let z = every_held-Value AnyLayer Q _ h in in_big_of b z.0 (z.1 ∙ out-roll-Value (Value-F.BigMap b))

  pub in_big : (b : BigMap) → Each (v.BigMap b) → EachBig b
  in_big b h = layer_big b (moved_to _ _ (sym (rolls-BigMap b)) h)

  pub up_big : (b : BigMap) → EachBig b → Each (roll-Value (Value-F.BigMap b))
  up_big b h = made (Value-F.BigMap b) (Value-F.BigMap (b, h)) refl

  pub of_big : (b : BigMap) → EachBig b → Each (v.BigMap b)
  of_big b h = moved_to _ _ (rolls-BigMap b) (up_big b h)

  pub here : (b : BigMap) → EachBig b → Q (out-BigMap b)
  here b h = every_here-BigMap AnyLayer Q b h

  abbrev lower_change : Datum × Option Held → Datum × Option Value
  lower_change c = (c.0, option_map (λ e. e.0) c.1)

  -- the changes of one level
  lower_is : (base : Option ℕ) (zs : List (Datum × Option Held)) →
      (lowered_big (record { base = base; overlay = zs })).overlay ≡ map lower_change zs
  lower_is base [] = refl
  lower_is base (z ∷ zs) = by_case z.1 (lower_is base zs)
    where
      by_case : (o : Option Held) → (lowered_big (record { base = base; overlay = zs })).overlay ≡ map lower_change zs →
          (lowered_big (record { base = base; overlay = (z.0, o) ∷ zs })).overlay ≡ lower_change (z.0, o) ∷ map lower_change zs
      by_case None later = ap (λ t. (z.0, None) ∷ t) later
      by_case (Some x) later = ap (λ t. (z.0, Some x.0) ∷ t) later

  back_change : (o : Option Held) → EachPut (option_map (λ e. e.0) o)
  back_change None = tt
  back_change (Some z) = z.1

  back_changes : (zs : List (Datum × Option Held)) → AllByRecursion EachChange (map lower_change zs)
  back_changes [] = tt
  back_changes (z ∷ zs) = (back_change z.1, back_changes zs)

  pub in_changes : (b : BigMap) → EachBig b → AllByRecursion EachChange (out-BigMap b).overlay
  in_changes b h =
      let z = every_held-BigMap AnyLayer Q b h in
      subst (AllByRecursion EachChange) (sym (lower_is z.0.base z.0.overlay) ∙ ap (λ l. l.overlay) z.1) (back_changes z.0.overlay)

  up_put : (o : Option Value) → EachPut o → Option Held
  up_put None h = None
  up_put (Some x) h = Some (x, h)

  up_put_is : (o : Option Value) (h : EachPut o) → option_map (λ e. e.0) (up_put o h) ≡ o
  unfolding up_put
  up_put_is None h = refl
  up_put_is (Some x) h = refl

  up_changes : (cs : List (Datum × Option Value)) → AllByRecursion EachChange cs → List (Datum × Option Held)
  up_changes [] h = []
  up_changes (c ∷ cs) h = (c.0, up_put c.1 h.0) ∷ up_changes cs h.1

  up_changes_is : (cs : List (Datum × Option Value)) (h : AllByRecursion EachChange cs) → map lower_change (up_changes cs h) ≡ cs
  unfolding up_changes
  up_changes_is [] h = refl
  up_changes_is (c ∷ cs) h = (λ i. (c.0, up_put_is c.1 h.0 i) ∷ up_changes_is cs h.1 i)

  pub of_changes : (b : BigMap) → AllByRecursion EachChange (out-BigMap b).overlay → Q (out-BigMap b) → EachBig b
  of_changes b h q =
      let l = out-BigMap b in
      let e : lowered_big (record { base = l.base; overlay = up_changes l.overlay h }) ≡ l = ap (λ (cs : List (Datum × Option Value)). record { base = l.base; overlay = cs }) (lower_is l.base (up_changes l.overlay h) ∙ up_changes_is l.overlay h) in
      big_to (roll-BigMap l) b (roll-out-BigMap b) (every_made-BigMap AnyLayer Q l (record { base = l.base; overlay = up_changes l.overlay h }) e q)

  -- ---- values without parts

  pub up_unit : Each (roll-Value Value-F.Unit)
  up_unit = made Value-F.Unit Value-F.Unit refl

  pub of_unit : Each v.Unit
  of_unit = moved_to _ _ (rolls-Unit) (up_unit)

  pub up_bool : (b : Bool) → Each (roll-Value (Value-F.Bool b))
  up_bool b = made (Value-F.Bool b) (Value-F.Bool b) refl

  pub of_bool : (b : Bool) → Each (v.Bool b)
  of_bool b = moved_to _ _ (rolls-Bool b) (up_bool b)

  pub up_number : (n : ℤ) → Each (roll-Value (Value-F.Number n))
  up_number n = made (Value-F.Number n) (Value-F.Number n) refl

  pub of_number : (n : ℤ) → Each (v.Number n)
  of_number n = moved_to _ _ (rolls-Number n) (up_number n)

  pub up_text : (s : List ℕ) → Each (roll-Value (Value-F.Text s))
  up_text s = made (Value-F.Text s) (Value-F.Text s) refl

  pub of_text : (s : List ℕ) → Each (v.Text s)
  of_text s = moved_to _ _ (rolls-Text s) (up_text s)

  pub up_bytes : (s : List ℕ) → Each (roll-Value (Value-F.Bytes s))
  up_bytes s = made (Value-F.Bytes s) (Value-F.Bytes s) refl

  pub of_bytes : (s : List ℕ) → Each (v.Bytes s)
  of_bytes s = moved_to _ _ (rolls-Bytes s) (up_bytes s)

  pub up_none : Each (roll-Value Value-F.None)
  up_none = made Value-F.None Value-F.None refl

  pub of_none : Each v.None
  of_none = moved_to _ _ (rolls-None) (up_none)

  pub up_set : (ds : List Datum) → Each (roll-Value (Value-F.Set ds))
  up_set ds = made (Value-F.Set ds) (Value-F.Set ds) refl

  pub of_set : (ds : List Datum) → Each (v.Set ds)
  of_set ds = moved_to _ _ (rolls-Set ds) (up_set ds)

  pub up_lambda : (n : Node) (r : Bool) → Each (roll-Value (Value-F.Lambda n r))
  up_lambda n r = made (Value-F.Lambda n r) (Value-F.Lambda n r) refl

  pub of_lambda : (n : Node) (r : Bool) → Each (v.Lambda n r)
  of_lambda n r = moved_to _ _ (rolls-Lambda n r) (up_lambda n r)

  pub up_operation : (n : ℕ) → Each (roll-Value (Value-F.Operation n))
  up_operation n = made (Value-F.Operation n) (Value-F.Operation n) refl

  pub of_operation : (n : ℕ) → Each (v.Operation n)
  of_operation n = moved_to _ _ (rolls-Operation n) (up_operation n)

  pub up_ticket : (t : Ticket) → Each (roll-Value (Value-F.Ticket t))
  up_ticket t = made (Value-F.Ticket t) (Value-F.Ticket t) refl

  pub of_ticket : (t : Ticket) → Each (v.Ticket t)
  of_ticket t = moved_to _ _ (rolls-Ticket t) (up_ticket t)
