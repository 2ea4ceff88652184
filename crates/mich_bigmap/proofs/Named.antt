-- What is so of each base that a value names is so of each big map in it.
use Rattle.std.proofs.Common.{◌≡◌, ℕ, Bool, true, false, List, [], ◌∷◌, ◌++◌, map, Some, None, refl, sym, ap, ◌∙◌, subst, arith}
use Rattle.std.specs.Prelude.{option_map, ◌||◌, ◌==◌, if◌then◌else◌}
use Rattle.std.specs.declared.option.Option.{Option}
use Rattle.std.specs.List.{AllByRecursion}
use Rattle.std.specs.Map.{values_of}
use Rattle.std.proofs.lemmas.Bool.Decides.{nat_tests}
use Rattle.mich_term.specs.declared.datum.Datum.{Datum}
use Rattle.mich_term.specs.declared.value.Value.{Value, roll-Value, ind-Value, fold-roll-Value, map-Value}
use Rattle.mich_term.specs.declared.value.Value.TheOpen.{Value-F, BigMap-F}
use Rattle.mich_term.specs.declared.value.Value.TheFolds.{fold-roll-BigMap, map-BigMap}
use Rattle.mich_term.specs.declared.value.BigMap.{BigMap, out-BigMap, roll-BigMap, out-roll-BigMap}
use Rattle.mich_bigmap.specs.Bases.{Bases, entries_in}
use Rattle.mich_bigmap.specs.Formed.{is_there}
use Rattle.mich_bigmap.specs.Layers.{HasBases, BasedLayer}
use Rattle.mich_bigmap.specs.Standing.{val_in}
use Rattle.mich_bigmap.specs.Ticketless.{HoldNoTickets}
use Rattle.mich_bigmap.proofs.Meaning.{none_in}
use Rattle.mich_bigmap.proofs.Remaining.{kept_bases_stand}
use Rattle.mich_bigmap.proofs.Staying.{each_both, SameEntries, val_stays}
use Rattle.mich_bigmap.specs.Kept.{kept_of, has, names, big_names, names_step, big_names_step, with_over, all_of, changes_name, named_there, named_change, named_entry}
use Rattle.mich_bigmap.proofs.Kept.{has_append, opened_names}
use Rattle.mich_term.proofs.ForCallers.Each as e

module _ (G : Option ℕ → Type 0) (none : G None) where
  abbrev Q : BigMap-F Value BigMap → Type 0
  Q b = G b.base

  abbrev pub EachNamed : List ℕ → Type 0
  EachNamed ns = (k : ℕ) → has k ns ≡ true → G (Some k)

  in_first : (a b : Bool) → a ≡ true → (a || b) ≡ true
  in_first true b h = refl
  in_first false b h = cc

  in_second : (a b : Bool) → b ≡ true → (a || b) ≡ true
  in_second true b h = refl
  in_second false b h = h

  first_of : (ns ms : List ℕ) → EachNamed (ns ++ ms) → EachNamed ns
  first_of ns ms h = λ k t. h k (has_append k ns ms ∙ in_first (has k ns) (has k ms) t)

  second_of : (ns ms : List ℕ) → EachNamed (ns ++ ms) → EachNamed ms
  second_of ns ms h = λ k t. h k (has_append k ns ms ∙ in_second (has k ns) (has k ms) t)

  base_of : (o : Option ℕ) → EachNamed (with_over o []) → G o
  base_of None h = none
  base_of (Some k) h = let t : (k == k) ≡ true = grind (arith, nat_tests) in h k (ap (λ b. b || false) t)

  abbrev More : Value → Type 0
  More v = EachNamed (names v) → e.Each Q v

  abbrev MoreBig : BigMap → Type 0
  MoreBig b = EachNamed (big_names b) → e.EachBig Q b

  abbrev With : Type 0
  With = (x : Value) × More x

  abbrev WithBig : Type 0
  WithBig = (x : BigMap) × MoreBig x

  abbrev low : Value-F With WithBig → Value-F Value BigMap
  low z = map-Value With WithBig Value BigMap (λ p. p.0) (λ p. p.0) z

  abbrev low_big : BigMap-F With WithBig → BigMap-F Value BigMap
  low_big z = map-BigMap With WithBig Value BigMap (λ p. p.0) (λ p. p.0) z

  more_list : (zs : List With) → EachNamed (all_of (map names (map (λ p. p.0) zs))) → AllByRecursion (e.Each Q) (map (λ p. p.0) zs)
  more_list [] h = tt
  more_list (z ∷ zs) h = (z.1 (first_of (names z.0) (all_of (map names (map (λ p. p.0) zs))) h), more_list zs (second_of (names z.0) (all_of (map names (map (λ p. p.0) zs))) h))

  abbrev low_entry : Datum × With → Datum × Value
  low_entry p = (p.0, p.1.0)

  more_entries : (zs : List (Datum × With)) → EachNamed (all_of (values_of (map named_entry (map low_entry zs)))) → AllByRecursion (e.EachEntry Q) (map low_entry zs)
  more_entries [] h = tt
  more_entries (z ∷ zs) h =
      let rest = all_of (values_of (map named_entry (map low_entry zs))) in
      (z.1.1 (first_of (names z.1.0) rest h), more_entries zs (second_of (names z.1.0) rest h))

  -- one level
  opened : (l : Value-F Value BigMap) → EachNamed (names (roll-Value l)) → EachNamed (names_step (map-Value Value BigMap (List ℕ) (List ℕ) names big_names l))
  opened l h = subst EachNamed (fold-roll-Value (List ℕ) (List ℕ) names_step big_names_step l) h

  level : (z : Value-F With WithBig) → More (roll-Value (low z))
  level Value-F.Unit h = e.up_unit Q
  level (Value-F.Bool b) h = e.up_bool Q b
  level (Value-F.Number n) h = e.up_number Q n
  level (Value-F.Text s) h = e.up_text Q s
  level (Value-F.Bytes s) h = e.up_bytes Q s
  level Value-F.None h = e.up_none Q
  level (Value-F.Some a) h = e.up_some Q a.0 (a.1 (opened (Value-F.Some a.0) h))
  level (Value-F.Left a) h = e.up_left Q a.0 (a.1 (opened (Value-F.Left a.0) h))
  level (Value-F.Right a) h = e.up_right Q a.0 (a.1 (opened (Value-F.Right a.0) h))
  level (Value-F.Pair a b) h =
      let k = opened (Value-F.Pair a.0 b.0) h in
      e.up_pair Q a.0 b.0 (a.1 (first_of (names a.0) (names b.0) k)) (b.1 (second_of (names a.0) (names b.0) k))
  level (Value-F.List zs) h = e.up_list Q (map (λ p. p.0) zs) (more_list zs (opened (low (Value-F.List zs)) h))
  level (Value-F.Set ds) h = e.up_set Q ds
  level (Value-F.Map zs) h = e.up_map Q (map low_entry zs) (more_entries zs (opened (low (Value-F.Map zs)) h))
  level (Value-F.BigMap a) h = e.up_big Q a.0 (a.1 (opened (Value-F.BigMap a.0) h))
  level (Value-F.Lambda n r) h = e.up_lambda Q n r
  level (Value-F.Operation n) h = e.up_operation Q n
  level (Value-F.Ticket t) h = e.up_ticket Q t

  abbrev low_change : Datum × Option With → Datum × Option Value
  low_change c = (c.0, option_map (λ p. p.0) c.1)

  low_is : (base : Option ℕ) (zs : List (Datum × Option With)) → (low_big (record { base = base; overlay = zs })).overlay ≡ map low_change zs
  low_is base [] = refl
  low_is base (z ∷ zs) = by_case z.1 (low_is base zs)
    where
      by_case : (o : Option With) → (low_big (record { base = base; overlay = zs })).overlay ≡ map low_change zs →
          (low_big (record { base = base; overlay = (z.0, o) ∷ zs })).overlay ≡ low_change (z.0, o) ∷ map low_change zs
      by_case None later = ap (λ t. (z.0, None) ∷ t) later
      by_case (Some x) later = ap (λ t. (z.0, Some x.0) ∷ t) later

  more_put : (o : Option With) → EachNamed (named_there (option_map names (option_map (λ p. p.0) o))) → e.EachPut Q (option_map (λ p. p.0) o)
  more_put None h = tt
  more_put (Some z) h = z.1 h

  more_changes : (zs : List (Datum × Option With)) → EachNamed (changes_name (map named_change (map low_change zs))) → AllByRecursion (e.EachChange Q) (map low_change zs)
  more_changes [] h = tt
  more_changes (z ∷ zs) h =
      let front = named_there (option_map names (option_map (λ p. p.0) z.1)) in
      let rest = changes_name (map named_change (map low_change zs)) in
      (more_put z.1 (first_of front rest h), more_changes zs (second_of front rest h))

  level_big : (z : BigMap-F With WithBig) → MoreBig (roll-BigMap (low_big z))
  level_big z h =
      let l = low_big z in
      let b = roll-BigMap l in
      let is : l.overlay ≡ map low_change z.overlay = low_is z.base z.overlay in
      let out : (out-BigMap b).overlay ≡ map low_change z.overlay = ap (λ t. t.overlay) (out-roll-BigMap l) ∙ is in
      let all : EachNamed (with_over l.base [] ++ changes_name (map named_change l.overlay)) =
      subst EachNamed (fold-roll-BigMap (List ℕ) (List ℕ) names_step big_names_step l ∙ opened_names l.base l.overlay) h in
      let changes : EachNamed (changes_name (map named_change (map low_change z.overlay))) =
      subst (λ (cs : List (Datum × Option Value)). EachNamed (changes_name (map named_change cs))) is (second_of (with_over l.base []) (changes_name (map named_change l.overlay)) all) in
      let base : G l.base = base_of l.base (first_of (with_over l.base []) (changes_name (map named_change l.overlay)) all) in
      e.of_changes Q b (subst (AllByRecursion (e.EachChange Q)) (sym out) (more_changes z.overlay changes)) (subst Q (sym (out-roll-BigMap l)) base)

  pub each_named : (v : Value) → EachNamed (names v) → e.Each Q v
  each_named = ind-Value More MoreBig (λ x y is. subst (λ z. More (roll-Value z)) is (level y)) (λ x y is. subst (λ z. MoreBig (roll-BigMap z)) is (level_big y))

-- ---- what is kept of a store, where the bases that a value names were noted

pub kept_based : (bs : Bases) (ns : List ℕ) (v : Value) → HasBases bs v → ((k : ℕ) → has k (names v) ≡ true → is_there bs (Some k) ≡ true → has k ns ≡ true) →
    HasBases (kept_of ns bs) v × (val_in (kept_of ns bs) v ≡ val_in bs v)
kept_based bs ns v h noted =
    let G : Option ℕ → Type 0 = λ o. is_there bs o ≡ true → (is_there (kept_of ns bs) o ≡ true) × (entries_in (kept_of ns bs) o ≡ entries_in bs o) in
    let each = each_named G (λ t. (refl, none_in (kept_of ns bs) ∙ sym (none_in bs))) v (λ k t there. let s = kept_bases_stand ns bs k (noted k t there) in (s.1 ∙ there, s.0)) in (
      each_both (BasedLayer bs) (λ b. G b.base) (BasedLayer (kept_of ns bs)) (λ b t g. (g t).0) v h each,
      val_stays bs (kept_of ns bs) v (each_both (BasedLayer bs) (λ b. G b.base) (SameEntries bs (kept_of ns bs)) (λ b t g. (g t).1) v h each),
    )

pub kept_ticketless : (ns : List ℕ) (bs : Bases) → HoldNoTickets bs → HoldNoTickets (kept_of ns bs)
kept_ticketless ns [] h = tt
kept_ticketless ns (b ∷ bs) h =
    elim (has b.number ns) as (λ t. HoldNoTickets (if t then b ∷ kept_of (with_over b.over ns) bs else kept_of ns bs))
    [ true ↦ (h.0, kept_ticketless (with_over b.over ns) bs h.1) | false ↦ kept_ticketless ns bs h.1 ]
