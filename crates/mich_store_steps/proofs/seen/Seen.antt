-- A value whose big maps have their form, with bases in the store, is seen as it stands there; and a value that is seen as one that
-- fits a type is such a value.
use Rattle.std.proofs.Common.{◌≡◌, ℕ, Bool, true, false, List, [], ◌∷◌, map, Some, None, refl, sym, ap, ◌∙◌, subst}
use Rattle.std.specs.Prelude.{option_map, is_some}
use Rattle.std.specs.declared.option.Option.{Option}
use Rattle.std.specs.declared.cmp.Ordering.{Ordering}
use Rattle.std.specs.declared.cmp.Ordering.TheVariants.{Less, Equal, Greater}
use Rattle.std.specs.List.{AllByRecursion}
use Rattle.std.specs.List.Sorted.{IsStrictlySortedBy}
use Rattle.std.specs.Map.{keys_of}
use Rattle.std.proofs.lemmas.Bool.{and_parts, and_from}
use Rattle.rules_data.specs.types.Kind.{Kind}
use Rattle.rules_code.specs.typing.Fits.{Known, Fits}
use Rattle.rules_data.specs.values.Tables.{AreIncreasingKeys}
use Rattle.rules_data.specs.values.Tickets.{Held, pair_tickets}
use Rattle.rules_data.specs.values.Val.{Val, Pairs}
use Rattle.mich_term.specs.Keyed.{by, IsIncreasing}
use Rattle.mich_term.specs.Layers.{NoBigMap, PutsNoBigMap, FormedLayer, AreFormed}
use Rattle.mich_term.specs.ValueView.{val, value_step, change, puts}
use Rattle.mich_term.specs.declared.datum.Datum.{Datum}
use Rattle.mich_term.specs.declared.value.Value.{Value}
use Rattle.mich_term.specs.declared.value.Value.TheOpen.{BigMap-F}
use Rattle.mich_term.specs.declared.value.Value.TheFolds.{fold_out-BigMap, map-BigMap}
use Rattle.mich_term.specs.declared.value.BigMap.{BigMap, out-BigMap}
use Rattle.mich_term.proofs.ForCallers.Each as e
use Rattle.mich_bigmap.specs.Bases.{Bases, Changes}
use Rattle.mich_bigmap.specs.Layers.{BasedLayer, HasBases}
use Rattle.mich_bigmap.specs.Standing.{val_in, big_step_in}
use Rattle.mich_bigmap.proofs.ForCallers.{equals, agree, each_more, each_both}
use Rattle.mich_stack.specs.Views.{Sight, seen}
use Rattle.mich_store_steps.specs.seen.Sights.{Seen, is_less, are_above, are_increasing, put_plain, all_plain, all_put, is_none, bare_well, puts_well, is_layer, odd, seen_where, sight, IsSane, AreSane, EntriesSane}
use Rattle.mich_store_steps.proofs.seen.Parts.{big_seen, HasParts, tells, plain_tells, plain_seen, plain_is}
use Rattle.mich_store_steps.proofs.seen.Fitting.{fits_sane}

-- its form, and its base is in the store
pub record SoundLayer (bs : Bases) (b : BigMap-F Value BigMap) : Type 0 where
  pub formed : FormedLayer b
  pub based : BasedLayer bs b

-- ---- tests

less_is : (o : Ordering) → is_less o ≡ true → o ≡ Less
less_is Less h = refl
less_is Equal h = cc
less_is Greater h = cc

above_of : (k : Datum) (ks : List Datum) → are_above k ks ≡ true → AllByRecursion (λ j. by k j ≡ Less) ks
above_of k [] h = tt
above_of k (j ∷ js) h = let p = and_parts _ _ h in (less_is (by k j) p.0, above_of k js p.1)

increasing_of : (ks : List Datum) → are_increasing ks ≡ true → IsIncreasing ks
unfolding IsStrictlySortedBy
increasing_of [] h = tt
increasing_of (k ∷ ks) h = let p = and_parts _ _ h in (above_of k ks p.0, increasing_of ks p.1)

above_is : (k : Datum) (ks : List Datum) → AllByRecursion (λ j. by k j ≡ Less) ks → are_above k ks ≡ true
above_is k [] h = refl
above_is k (j ∷ js) h = and_from _ _ (ap is_less h.0) (above_is k js h.1)

increasing_is : (ks : List Datum) → IsIncreasing ks → are_increasing ks ≡ true
unfolding IsStrictlySortedBy
increasing_is [] h = refl
increasing_is (k ∷ ks) h = and_from _ _ (above_is k ks h.0) (increasing_is ks h.1)

none_of : (ts : List Held) → is_none ts ≡ true → ts ≡ []
none_of [] h = refl
none_of (t ∷ ts) h = cc

ticketless_of : (base : Option ℕ) (ts : List Held) → bare_well base ts ≡ true → is_some base ≡ true → ts ≡ []
ticketless_of None ts h s = cc
ticketless_of (Some k) ts h s = none_of ts h

bare_is : (base : Option ℕ) (ts : List Held) → (is_some base ≡ true → ts ≡ []) → bare_well base ts ≡ true
bare_is None ts t = refl
bare_is (Some k) ts t = ap is_none (t refl)

-- ---- one level

module _ (big : Sight) where
  abbrev seen_change : Datum × Option Value → Datum × Option Val
  seen_change c = (c.0, option_map (seen big) c.1)

  abbrev pub layer : BigMap-F Value BigMap → BigMap-F Val Pairs
  layer l = map-BigMap Value BigMap Val Pairs (seen big) (big_seen big) l

  overlay_is : (base : Option ℕ) (cs : Changes) → (layer (record { base = base; overlay = cs })).overlay ≡ map seen_change cs
  overlay_is base [] = refl
  overlay_is base (c ∷ cs) = by_case c.1 (overlay_is base cs)
    where
      by_case : (o : Option Value) → (layer (record { base = base; overlay = cs })).overlay ≡ map seen_change cs →
          (layer (record { base = base; overlay = (c.0, o) ∷ cs })).overlay ≡ seen_change (c.0, o) ∷ map seen_change cs
      by_case None later = ap (λ t. (c.0, None) ∷ t) later
      by_case (Some x) later = ap (λ t. (c.0, Some (seen big x)) ∷ t) later

  keys_are : (cs : Changes) → keys_of (map seen_change cs) ≡ keys_of cs
  keys_are [] = refl
  keys_are (c ∷ cs) = ap (λ ks. c.0 ∷ ks) (keys_are cs)

  put_tells : (o : Option Value) → put_plain (option_map (seen big) o) ≡ true → PutsNoBigMap o
  put_tells None h = tt
  put_tells (Some x) h = plain_tells big x h

  plain_of : (cs : Changes) → all_plain (map seen_change cs) ≡ true → AllByRecursion (λ c. PutsNoBigMap c.1) cs
  plain_of [] h = tt
  plain_of (c ∷ cs) h = let p = and_parts _ _ h in (put_tells c.1 p.0, plain_of cs p.1)

  put_is : (o : Option Value) → PutsNoBigMap o → put_plain (option_map (seen big) o) ≡ true
  put_is None h = refl
  put_is (Some x) h = plain_is big x h

  all_is : (cs : Changes) → AllByRecursion (λ c. PutsNoBigMap c.1) cs → all_plain (map seen_change cs) ≡ true
  all_is [] h = refl
  all_is (c ∷ cs) h = and_from _ _ (put_is c.1 h.0) (all_is cs h.1)

  put_seen : (o : Option Value) → PutsNoBigMap o → option_map (seen big) o ≡ option_map val o
  put_seen None h = refl
  put_seen (Some x) h = ap Some (plain_seen big x h)

  -- what is put without big maps is seen alike by all
  pub changes_seen : (cs : Changes) → AllByRecursion (λ c. PutsNoBigMap c.1) cs → map seen_change cs ≡ map change cs
  changes_seen [] h = refl
  changes_seen (c ∷ cs) h = (λ i. (c.0, put_seen c.1 h.0 i) ∷ changes_seen cs h.1 i)

  some_seen : (o : Option Value) → is_some (option_map (seen big) o) ≡ is_some o
  some_seen None = refl
  some_seen (Some x) = refl

  put_of : (cs : Changes) → all_put (map seen_change cs) ≡ true → AllByRecursion (λ c. is_some c.1 ≡ true) cs
  put_of [] h = tt
  put_of (c ∷ cs) h = let p = and_parts _ _ h in (sym (some_seen c.1) ∙ p.0, put_of cs p.1)

  puts_of : (base : Option ℕ) (cs : Changes) → puts_well base (map seen_change cs) ≡ true → base ≡ None → AllByRecursion (λ c. is_some c.1 ≡ true) cs
  puts_of None cs h n = put_of cs h
  puts_of (Some k) cs h n = absurd cc

  all_put_is : (cs : Changes) → AllByRecursion (λ c. is_some c.1 ≡ true) cs → all_put (map seen_change cs) ≡ true
  all_put_is [] h = refl
  all_put_is (c ∷ cs) h = and_from _ _ (some_seen c.1 ∙ h.0) (all_put_is cs h.1)

  puts_is : (base : Option ℕ) (cs : Changes) → (base ≡ None → AllByRecursion (λ c. is_some c.1 ≡ true) cs) → puts_well base (map seen_change cs) ≡ true
  puts_is None cs h = all_put_is cs (h refl)
  puts_is (Some k) cs h = refl

  module _ (bs : Bases) (l : BigMap-F Value BigMap) where
    abbrev over : Seen → BigMap-F Val Pairs
    over cs = record { base = l.base; overlay = cs }

    whole_is : layer l ≡ over (map seen_change l.overlay)
    whole_is = ap over (overlay_is l.base l.overlay)

    -- what passes the test has its form
    pub layer_of : is_layer bs (layer l) ≡ true → SoundLayer bs l
    layer_of h =
        let t : is_layer bs (over (map seen_change l.overlay)) ≡ true = ap (is_layer bs) (sym whole_is) ∙ h in
        let first = and_parts _ _ t in
        let second = and_parts _ _ first.1 in
        let third = and_parts _ _ second.1 in
        let fourth = and_parts _ _ third.1 in
        let plain = plain_of l.overlay fourth.1 in
        record {
          formed = record {
            keys = increasing_of (keys_of l.overlay) (ap are_increasing (sym (keys_are l.overlay)) ∙ second.0);
            puts = puts_of l.base l.overlay fourth.0;
            plain = plain;
            ticketless = λ s. ap (λ cs. pair_tickets (puts cs)) (sym (changes_seen l.overlay plain)) ∙ ticketless_of l.base _ third.0 s;
          };
          based = first.0;
        }

    -- and the other way round
    pub layer_is : SoundLayer bs l → is_layer bs (layer l) ≡ true
    layer_is h =
        ap (is_layer bs) whole_is
        ∙ and_from _ _ h.based (and_from _ _ (ap are_increasing (keys_are l.overlay) ∙ increasing_is (keys_of l.overlay) h.formed.keys)
        (and_from _ _ (bare_is l.base _ (λ s. ap (λ cs. pair_tickets (puts cs)) (changes_seen l.overlay h.formed.plain) ∙ h.formed.ticketless s))
        (and_from _ _ (puts_is l.base l.overlay h.formed.puts) (all_is l.overlay h.formed.plain))))

    -- where nothing that is put holds a big map, all see it alike
    pub layer_alike : AllByRecursion (λ c. PutsNoBigMap c.1) l.overlay → layer l ≡ over (map change l.overlay)
    layer_alike h = whole_is ∙ ap over (changes_seen l.overlay h)

-- ---- all levels

module _ (bs : Bases) where
  abbrev pub Sound : Value → Type 0
  Sound x = e.Each (SoundLayer bs) x

  pub sound_of : (x : Value) → AreFormed x → HasBases bs x → Sound x
  sound_of x f b = each_both FormedLayer (BasedLayer bs) (SoundLayer bs) (λ l h k. record { formed = h; based = k }) x f b

  pub sound_formed : (x : Value) → Sound x → AreFormed x
  sound_formed x h = each_more (SoundLayer bs) FormedLayer (λ l k. k.formed) x h

  pub sound_based : (x : Value) → Sound x → HasBases bs x
  sound_based x h = each_more (SoundLayer bs) (BasedLayer bs) (λ l k. k.based) x h

  big_same : (b : BigMap) → e.EachBig (SoundLayer bs) b → big_seen (sight bs) b ≡ big_seen (big_step_in bs) b
  big_same b h =
      let l = out-BigMap b in
      let sound : SoundLayer bs l = e.here (SoundLayer bs) b h in
      fold_out-BigMap Val Pairs value_step (sight bs) b
      ∙ ap (λ t. seen_where t bs (layer (sight bs) l)) (layer_is (sight bs) bs l sound)
      ∙ ap (big_step_in bs) (layer_alike (sight bs) bs l sound.formed.plain ∙ sym (layer_alike (big_step_in bs) bs l sound.formed.plain))
      ∙ sym (fold_out-BigMap Val Pairs value_step (big_step_in bs) b)

  -- a sound value is seen as it stands in the store
  pub sound_seen : (x : Value) → Sound x → seen (sight bs) x ≡ val_in bs x
  sound_seen = agree equals (sight bs) (big_step_in bs) (SoundLayer bs) (λ z h. big_same _ h)

  -- ---- what fits a type

  sane_parts : HasParts IsSane AreSane EntriesSane AreIncreasingKeys
  sane_parts = record {
    somes = λ x h. h;
    lefts = λ x h. h;
    rights = λ x h. h;
    boths = λ x y h. h;
    lists = λ xs h. h;
    tables = λ ps h. h;
    bigs = λ ps h. h;
    more = λ x xs h. h;
    entries = λ k x ps h. h;
  }

  put_sound : (o : Option Value) → PutsNoBigMap o → e.EachPut (SoundLayer bs) o
  put_sound None h = tt
  put_sound (Some x) h = each_more NoBigMap (SoundLayer bs) (λ l k. absurd k) x h

  puts_sound : (cs : Changes) → AllByRecursion (λ c. PutsNoBigMap c.1) cs → AllByRecursion (e.EachChange (SoundLayer bs)) cs
  puts_sound [] h = tt
  puts_sound (c ∷ cs) h = (put_sound c.1 h.0, puts_sound cs h.1)

  odd_is_not : (ts : List Held) → AreIncreasingKeys (odd ts) → ⊥
  odd_is_not ts h = let e = h.0.0 in cc

  big_sound : (b : BigMap) → AreIncreasingKeys (big_seen (sight bs) b) → e.EachBig (SoundLayer bs) b
  big_sound b h = go (is_layer bs (layer (sight bs) l)) refl (subst AreIncreasingKeys (fold_out-BigMap Val Pairs value_step (sight bs) b) h)
    where
      l : BigMap-F Value BigMap
      l = out-BigMap b

      go : (t : Bool) → is_layer bs (layer (sight bs) (out-BigMap b)) ≡ t → AreIncreasingKeys (seen_where t bs (layer (sight bs) (out-BigMap b))) → e.EachBig (SoundLayer bs) b
      go true test k =
          let sound : SoundLayer bs (out-BigMap b) = layer_of (sight bs) bs (out-BigMap b) test in
          e.of_changes (SoundLayer bs) b (puts_sound (out-BigMap b).overlay sound.formed.plain) sound
      go false test k = absurd (odd_is_not (pair_tickets (puts (layer (sight bs) (out-BigMap b)).overlay)) k)

  -- a value that is seen as one that fits a type is sound
  pub fits_sound : (w : Known) (a : Kind) (x : Value) → Fits w a (seen (sight bs) x) → Sound x
  fits_sound w a x h = tells sane_parts (sight bs) (SoundLayer bs) big_sound x (fits_sane w a (seen (sight bs) x) h)
