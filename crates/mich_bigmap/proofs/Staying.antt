-- What values stand for where bases are added or given up, and where they hold no big map.
use Rattle.std.proofs.Common.{◌≡◌, ℕ, List, [], ◌∷◌, map, Some, None, refl, sym, ap, ◌∙◌, subst}
use Rattle.std.specs.Prelude.{option_map}
use Rattle.std.specs.declared.option.Option.{Option}
use Rattle.std.specs.List.{AllByRecursion}
use Rattle.rules_data.specs.values.Val.{Val, Vals, Pairs, no_val, no_pair, more_pairs, more_vals, some, left, right, both, list, table, big_table}
use Rattle.rules_data.specs.big_maps.Changes.{changed}
use Rattle.mich_term.specs.View.{datum, vals_of, pairs_of}
use Rattle.mich_term.specs.ValueView.{val, value_step, big_step}
use Rattle.mich_term.specs.declared.datum.Datum.{Datum}
use Rattle.mich_term.specs.declared.value.Value.{Value, roll-Value, ind-Value, fold-Value, fold-roll-Value, map-Value}
use Rattle.mich_term.specs.declared.value.Value.TheOpen.{Value-F, BigMap-F}
use Rattle.mich_term.specs.declared.value.Value.TheFolds.{fold-BigMap, fold-roll-BigMap, map-BigMap}
use Rattle.mich_term.specs.declared.value.BigMap.{BigMap, out-BigMap, roll-BigMap, out-roll-BigMap}
use Rattle.mich_bigmap.specs.Bases.{Bases, entries_in}
use Rattle.mich_bigmap.specs.Standing.{val_in, changes_in, big_val_in, big_step_in}
use Rattle.mich_term.specs.Layers.{NoBigMap}
use Rattle.mich_bigmap.proofs.Standing.{opened_is}
use Rattle.mich_term.proofs.ForCallers.Each as e

-- what a big map stands for, by its overlay
pub big_opens : (bs : Bases) (l : BigMap-F Value BigMap) → big_val_in bs (roll-BigMap l) ≡ changed (changes_in bs l.overlay) (entries_in bs l.base)
big_opens bs l = fold-roll-BigMap Val Pairs value_step (big_step_in bs) l ∙ opened_is bs l.base l.overlay

-- ---- what follows of each big map

module _ (Q Q' R : BigMap-F Value BigMap → Type 0) (follows : (b : BigMap-F Value BigMap) → Q b → Q' b → R b) where
  abbrev More : Value → Type 0
  More v = e.Each Q v → e.Each Q' v → e.Each R v

  abbrev MoreBig : BigMap → Type 0
  MoreBig b = e.EachBig Q b → e.EachBig Q' b → e.EachBig R b

  abbrev With : Type 0
  With = (x : Value) × More x

  abbrev WithBig : Type 0
  WithBig = (x : BigMap) × MoreBig x

  abbrev low : Value-F With WithBig → Value-F Value BigMap
  low z = map-Value With WithBig Value BigMap (λ p. p.0) (λ p. p.0) z

  abbrev low_big : BigMap-F With WithBig → BigMap-F Value BigMap
  low_big z = map-BigMap With WithBig Value BigMap (λ p. p.0) (λ p. p.0) z

  more_list : (zs : List With) → AllByRecursion (e.Each Q) (map (λ p. p.0) zs) → AllByRecursion (e.Each Q') (map (λ p. p.0) zs) → AllByRecursion (e.Each R) (map (λ p. p.0) zs)
  more_list [] h k = tt
  more_list (z ∷ zs) h k = (z.1 h.0 k.0, more_list zs h.1 k.1)

  abbrev low_entry : Datum × With → Datum × Value
  low_entry p = (p.0, p.1.0)

  more_entries : (zs : List (Datum × With)) → AllByRecursion (e.EachEntry Q) (map low_entry zs) → AllByRecursion (e.EachEntry Q') (map low_entry zs) → AllByRecursion (e.EachEntry R) (map low_entry zs)
  more_entries [] h k = tt
  more_entries (z ∷ zs) h k = (z.1.1 h.0 k.0, more_entries zs h.1 k.1)

  level : (z : Value-F With WithBig) → More (roll-Value (low z))
  level Value-F.Unit h k = e.up_unit R
  level (Value-F.Bool b) h k = e.up_bool R b
  level (Value-F.Number n) h k = e.up_number R n
  level (Value-F.Text s) h k = e.up_text R s
  level (Value-F.Bytes s) h k = e.up_bytes R s
  level Value-F.None h k = e.up_none R
  level (Value-F.Some a) h k = e.up_some R a.0 (a.1 (e.layer_some Q a.0 h) (e.layer_some Q' a.0 k))
  level (Value-F.Left a) h k = e.up_left R a.0 (a.1 (e.layer_left Q a.0 h) (e.layer_left Q' a.0 k))
  level (Value-F.Right a) h k = e.up_right R a.0 (a.1 (e.layer_right Q a.0 h) (e.layer_right Q' a.0 k))
  level (Value-F.Pair a b) h k =
      let x = e.layer_pair Q a.0 b.0 h in
      let y = e.layer_pair Q' a.0 b.0 k in
      e.up_pair R a.0 b.0 (a.1 x.0 y.0) (b.1 x.1 y.1)
  level (Value-F.List zs) h k = e.up_list R (map (λ p. p.0) zs) (more_list zs (e.layer_list Q (map (λ p. p.0) zs) h) (e.layer_list Q' (map (λ p. p.0) zs) k))
  level (Value-F.Set ds) h k = e.up_set R ds
  level (Value-F.Map zs) h k = e.up_map R (map low_entry zs) (more_entries zs (e.layer_map Q (map low_entry zs) h) (e.layer_map Q' (map low_entry zs) k))
  level (Value-F.BigMap a) h k = e.up_big R a.0 (a.1 (e.layer_big Q a.0 h) (e.layer_big Q' a.0 k))
  level (Value-F.Lambda n r) h k = e.up_lambda R n r
  level (Value-F.Operation n) h k = e.up_operation R n
  level (Value-F.Ticket t) h k = e.up_ticket R t

  abbrev low_change : Datum × Option With → Datum × Option Value
  low_change c = (c.0, option_map (λ p. p.0) c.1)

  low_is : (base : Option ℕ) (zs : List (Datum × Option With)) →
      (low_big (record { base = base; overlay = zs })).overlay ≡ map low_change zs
  low_is base [] = refl
  low_is base (z ∷ zs) = by_case z.1 (low_is base zs)
    where
      by_case : (o : Option With) → (low_big (record { base = base; overlay = zs })).overlay ≡ map low_change zs →
          (low_big (record { base = base; overlay = (z.0, o) ∷ zs })).overlay ≡ low_change (z.0, o) ∷ map low_change zs
      by_case None later = ap (λ t. (z.0, None) ∷ t) later
      by_case (Some x) later = ap (λ t. (z.0, Some x.0) ∷ t) later

  more_put : (o : Option With) → e.EachPut Q (option_map (λ p. p.0) o) → e.EachPut Q' (option_map (λ p. p.0) o) → e.EachPut R (option_map (λ p. p.0) o)
  more_put None h k = tt
  more_put (Some z) h k = z.1 h k

  more_changes : (zs : List (Datum × Option With)) → AllByRecursion (e.EachChange Q) (map low_change zs) → AllByRecursion (e.EachChange Q') (map low_change zs) → AllByRecursion (e.EachChange R) (map low_change zs)
  more_changes [] h k = tt
  more_changes (z ∷ zs) h k = (more_put z.1 h.0 k.0, more_changes zs h.1 k.1)

  level_big : (z : BigMap-F With WithBig) → MoreBig (roll-BigMap (low_big z))
  level_big z h k =
      let b = roll-BigMap (low_big z) in
      let is : (out-BigMap b).overlay ≡ map low_change z.overlay = ap (λ l. l.overlay) (out-roll-BigMap (low_big z)) ∙ low_is z.base z.overlay in
      let xs : AllByRecursion (e.EachChange Q) (map low_change z.overlay) = subst (AllByRecursion (e.EachChange Q)) is (e.in_changes Q b h) in
      let ys : AllByRecursion (e.EachChange Q') (map low_change z.overlay) = subst (AllByRecursion (e.EachChange Q')) is (e.in_changes Q' b k) in
      e.of_changes R b (subst (AllByRecursion (e.EachChange R)) (sym is) (more_changes z.overlay xs ys)) (follows (out-BigMap b) (e.here Q b h) (e.here Q' b k))

  pub each_both : (v : Value) → e.Each Q v → e.Each Q' v → e.Each R v
  each_both = ind-Value More MoreBig (λ x y is. subst (λ z. More (roll-Value z)) is (level y)) (λ x y is. subst (λ z. MoreBig (roll-BigMap z)) is (level_big y))

pub each_more : (Q R : BigMap-F Value BigMap → Type 0) (follows : (b : BigMap-F Value BigMap) → Q b → R b) (v : Value) → e.Each Q v → e.Each R v
each_more Q R follows v h = each_both Q Q R (λ b q k. follows b q) v h h

-- ---- two ways to see big maps

-- values are alike where their parts are
pub record AreAlike (R : Val → Val → Type 0) (RL : Vals → Vals → Type 0) (RP : Pairs → Pairs → Type 0) : Type 0 where
  pub same : (v : Val) → R v v
  pub somes : (v w : Val) → R v w → R (some v) (some w)
  pub lefts : (v w : Val) → R v w → R (left v) (left w)
  pub rights : (v w : Val) → R v w → R (right v) (right w)
  pub boths : (v w x y : Val) → R v w → R x y → R (both v x) (both w y)
  pub lists : (vs ws : Vals) → RL vs ws → R (list vs) (list ws)
  pub tables : (ps qs : Pairs) → RP ps qs → R (table ps) (table qs)
  pub bigs : (ps qs : Pairs) → RP ps qs → R (big_table ps) (big_table qs)
  pub no_vals : RL no_val no_val
  pub more : (v w : Val) (vs ws : Vals) → R v w → RL vs ws → RL (more_vals v vs) (more_vals w ws)
  pub no_pairs : RP no_pair no_pair
  pub entries : (k v w : Val) (ps qs : Pairs) → R v w → RP ps qs → RP (more_pairs k v ps) (more_pairs k w qs)

module _ {R : Val → Val → Type 0} {RL : Vals → Vals → Type 0} {RP : Pairs → Pairs → Type 0} (alike : AreAlike R RL RP)
    (f g : BigMap-F Val Pairs → Pairs) (Q : BigMap-F Value BigMap → Type 0) where
  abbrev by : (BigMap-F Val Pairs → Pairs) → Value → Val
  by h = fold-Value Val Pairs value_step h

  abbrev pub big_by : (BigMap-F Val Pairs → Pairs) → BigMap → Pairs
  big_by h = fold-BigMap Val Pairs value_step h

  abbrev Agrees : Value → Type 0
  Agrees v = e.Each Q v → R (by f v) (by g v)

  abbrev pub AgreesBig : BigMap → Type 0
  AgreesBig b = e.EachBig Q b → RP (big_by f b) (big_by g b)

  abbrev pub WithAgree : Type 0
  WithAgree = (x : Value) × Agrees x

  abbrev pub WithAgreeBig : Type 0
  WithAgreeBig = (x : BigMap) × AgreesBig x

  abbrev lowered : Value-F WithAgree WithAgreeBig → Value-F Value BigMap
  lowered z = map-Value WithAgree WithAgreeBig Value BigMap (λ p. p.0) (λ p. p.0) z

  abbrev pub lowered_big : BigMap-F WithAgree WithAgreeBig → BigMap-F Value BigMap
  lowered_big z = map-BigMap WithAgree WithAgreeBig Value BigMap (λ p. p.0) (λ p. p.0) z

  -- one level
  abbrev stepped : (BigMap-F Val Pairs → Pairs) → Value-F Value BigMap → Val
  stepped h l = value_step (map-Value Value BigMap Val Pairs (by h) (big_by h) l)

  by_level : (l : Value-F Value BigMap) → R (stepped f l) (stepped g l) → R (by f (roll-Value l)) (by g (roll-Value l))
  by_level l r =
      subst (λ v. R v (by g (roll-Value l))) (sym (fold-roll-Value Val Pairs value_step f l))
      (subst (λ v. R (stepped f l) v) (sym (fold-roll-Value Val Pairs value_step g l)) r)

  agree_list : (zs : List WithAgree) → AllByRecursion (e.Each Q) (map (λ p. p.0) zs) →
      RL (vals_of (map (by f) (map (λ p. p.0) zs))) (vals_of (map (by g) (map (λ p. p.0) zs)))
  agree_list [] h = alike.no_vals
  agree_list (z ∷ zs) h = alike.more _ _ _ _ (z.1 h.0) (agree_list zs h.1)

  abbrev agree_entry : Datum × WithAgree → Datum × Value
  agree_entry p = (p.0, p.1.0)

  agree_entries : (zs : List (Datum × WithAgree)) → AllByRecursion (e.EachEntry Q) (map agree_entry zs) →
      RP (pairs_of (map (λ p. (p.0, by f p.1)) (map agree_entry zs))) (pairs_of (map (λ p. (p.0, by g p.1)) (map agree_entry zs)))
  agree_entries [] h = alike.no_pairs
  agree_entries (z ∷ zs) h = alike.entries _ _ _ _ _ (z.1.1 h.0) (agree_entries zs h.1)

  agree_level : (z : Value-F WithAgree WithAgreeBig) → Agrees (roll-Value (lowered z))
  agree_level Value-F.Unit h = by_level Value-F.Unit (alike.same _)
  agree_level (Value-F.Bool b) h = by_level (Value-F.Bool b) (alike.same _)
  agree_level (Value-F.Number n) h = by_level (Value-F.Number n) (alike.same _)
  agree_level (Value-F.Text s) h = by_level (Value-F.Text s) (alike.same _)
  agree_level (Value-F.Bytes s) h = by_level (Value-F.Bytes s) (alike.same _)
  agree_level Value-F.None h = by_level Value-F.None (alike.same _)
  agree_level (Value-F.Some a) h = by_level (Value-F.Some a.0) (alike.somes _ _ (a.1 (e.layer_some Q a.0 h)))
  agree_level (Value-F.Left a) h = by_level (Value-F.Left a.0) (alike.lefts _ _ (a.1 (e.layer_left Q a.0 h)))
  agree_level (Value-F.Right a) h = by_level (Value-F.Right a.0) (alike.rights _ _ (a.1 (e.layer_right Q a.0 h)))
  agree_level (Value-F.Pair a b) h = let k = e.layer_pair Q a.0 b.0 h in by_level (Value-F.Pair a.0 b.0) (alike.boths _ _ _ _ (a.1 k.0) (b.1 k.1))
  agree_level (Value-F.List zs) h = by_level (lowered (Value-F.List zs)) (alike.lists _ _ (agree_list zs (e.layer_list Q (map (λ p. p.0) zs) h)))
  agree_level (Value-F.Set ds) h = by_level (Value-F.Set ds) (alike.same _)
  agree_level (Value-F.Map zs) h = by_level (lowered (Value-F.Map zs)) (alike.tables _ _ (agree_entries zs (e.layer_map Q (map agree_entry zs) h)))
  agree_level (Value-F.BigMap a) h = by_level (Value-F.BigMap a.0) (alike.bigs _ _ (a.1 (e.layer_big Q a.0 h)))
  agree_level (Value-F.Lambda n r) h = by_level (Value-F.Lambda n r) (alike.same _)
  agree_level (Value-F.Operation n) h = by_level (Value-F.Operation n) (alike.same _)
  agree_level (Value-F.Ticket t) h = by_level (Value-F.Ticket t) (alike.same _)

  -- they agree on values where they do on big maps
  module _ (big : (z : BigMap-F WithAgree WithAgreeBig) → AgreesBig (roll-BigMap (lowered_big z))) where
    pub agree : (v : Value) → e.Each Q v → R (by f v) (by g v)
    agree = ind-Value Agrees AgreesBig (λ x y is. subst (λ z. Agrees (roll-Value z)) is (agree_level y)) (λ x y is. subst (λ z. AgreesBig (roll-BigMap z)) is (big y))

-- values that are one
pub equals : AreAlike (λ v w. v ≡ w) (λ v w. v ≡ w) (λ v w. v ≡ w)
equals = record {
  same = λ v. refl;
  somes = λ v w h. ap some h;
  lefts = λ v w h. ap left h;
  rights = λ v w h. ap right h;
  boths = λ v w x y h k i. both (h i) (k i);
  lists = λ v w h. ap list h;
  tables = λ v w h. ap table h;
  bigs = λ v w h. ap big_table h;
  no_vals = refl;
  more = λ v w vs ws h k i. more_vals (h i) (k i);
  no_pairs = refl;
  entries = λ k v w ps qs h t i. more_pairs k (h i) (t i);
}

-- ---- values without big maps

pub val_plain : (bs : Bases) (v : Value) → e.Each NoBigMap v → val_in bs v ≡ val v
val_plain bs = agree equals (big_step_in bs) big_step NoBigMap (λ z h. absurd (e.here NoBigMap _ h))

-- ---- values stay what they stand for where the bases that they name do

module _ (old new : Bases) where
  abbrev pub SameEntries : BigMap-F Value BigMap → Type 0
  SameEntries b = entries_in new b.base ≡ entries_in old b.base

  abbrev Stay : Type 0
  Stay = WithAgree equals (big_step_in new) (big_step_in old) SameEntries

  abbrev StayBig : Type 0
  StayBig = WithAgreeBig equals (big_step_in new) (big_step_in old) SameEntries

  abbrev low_of : BigMap-F Stay StayBig → BigMap-F Value BigMap
  low_of z = lowered_big equals (big_step_in new) (big_step_in old) SameEntries z

  abbrev stay_change : Datum × Option Stay → Datum × Option Value
  stay_change c = (c.0, option_map (λ p. p.0) c.1)

  stay_is : (base : Option ℕ) (zs : List (Datum × Option Stay)) → (low_of (record { base = base; overlay = zs })).overlay ≡ map stay_change zs
  stay_is base [] = refl
  stay_is base (z ∷ zs) = by_case z.1 (stay_is base zs)
    where
      by_case : (o : Option Stay) → (low_of (record { base = base; overlay = zs })).overlay ≡ map stay_change zs →
          (low_of (record { base = base; overlay = (z.0, o) ∷ zs })).overlay ≡ stay_change (z.0, o) ∷ map stay_change zs
      by_case None later = ap (λ t. (z.0, None) ∷ t) later
      by_case (Some x) later = ap (λ t. (z.0, Some x.0) ∷ t) later

  stay_put : (o : Option Stay) → e.EachPut SameEntries (option_map (λ p. p.0) o) →
      option_map (val_in new) (option_map (λ p. p.0) o) ≡ option_map (val_in old) (option_map (λ p. p.0) o)
  stay_put None h = refl
  stay_put (Some z) h = ap Some (z.1 h)

  stay_changes : (zs : List (Datum × Option Stay)) → AllByRecursion (e.EachChange SameEntries) (map stay_change zs) →
      changes_in new (map stay_change zs) ≡ changes_in old (map stay_change zs)
  stay_changes [] h = refl
  stay_changes (z ∷ zs) h = (λ i. (datum z.0, stay_put z.1 h.0 i) ∷ stay_changes zs h.1 i)

  stay_big : (z : BigMap-F Stay StayBig) → e.EachBig SameEntries (roll-BigMap (low_of z)) → big_val_in new (roll-BigMap (low_of z)) ≡ big_val_in old (roll-BigMap (low_of z))
  stay_big z h =
      let l = low_of z in
      let b = roll-BigMap l in
      let is : l.overlay ≡ map stay_change z.overlay = stay_is z.base z.overlay in
      let out : (out-BigMap b).overlay ≡ map stay_change z.overlay = ap (λ t. t.overlay) (out-roll-BigMap l) ∙ is in
      let all : AllByRecursion (e.EachChange SameEntries) (map stay_change z.overlay) = subst (AllByRecursion (e.EachChange SameEntries)) out (e.in_changes SameEntries b h) in
      let base : entries_in new l.base ≡ entries_in old l.base = subst SameEntries (out-roll-BigMap l) (e.here SameEntries b h) in
      big_opens new l
      ∙ (λ i. changed ((ap (changes_in new) is ∙ stay_changes z.overlay all ∙ sym (ap (changes_in old) is)) i) (base i))
      ∙ sym (big_opens old l)

  pub val_stays : (v : Value) → e.Each SameEntries v → val_in new v ≡ val_in old v
  val_stays = agree equals (big_step_in new) (big_step_in old) SameEntries stay_big
