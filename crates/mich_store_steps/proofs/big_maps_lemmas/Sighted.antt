-- A big map that is seen with its entries has its form in the store, and is seen as it stands there; after a write too.
use Rattle.std.proofs.Common.{◌≡◌, Bool, true, false, List, [], ◌∷◌, ◌++◌, map, Some, None, Bor, refl, sym, ap, ◌∙◌, subst}
use Rattle.std.specs.Prelude.{option_map, is_some}
use Rattle.std.specs.declared.option.Option.{Option}
use Rattle.std.specs.List.{AllByRecursion}
use Rattle.std.specs.Map.{keys_of}
use Rattle.rules_data.specs.values.Val.{Val, Pairs, no_pair, big_table}
use Rattle.rules_data.specs.values.Tables.{AreIncreasingKeys, value_at, with_value, without_key}
use Rattle.rules_data.specs.values.Tickets.{Held, tickets, pair_tickets}
use Rattle.rules_data.specs.big_maps.Changes.{changed}
use Rattle.mich_term.specs.Keyed.{IsIncreasing}
use Rattle.mich_term.specs.Layers.{PutsNoBigMap, FormedLayer}
use Rattle.mich_term.specs.View.{datum}
use Rattle.mich_term.specs.ValueView.{val, value_step, big_step, big_pairs, change, puts, put_pairs}
use Rattle.mich_term.specs.declared.value.Value.{Value, fold-roll-Value}
use Rattle.mich_term.specs.declared.value.Value.TheOpen.{Value-F}
use Rattle.mich_term.specs.declared.value.Value.TheFolds.{fold_out-BigMap}
use Rattle.mich_term.specs.declared.value.Value.TheVariants as v
use Rattle.mich_term.specs.declared.value.Value.TheVariants.{rolls-BigMap}
use Rattle.mich_term.specs.declared.value.BigMap.{BigMap, out-BigMap}
use Rattle.mich_term.proofs.ForCallers.{big_is}
use Rattle.mich_bigmap.specs.Bases.{Bases, Changes, entries_in, big_in, seen_change, seen as seen_changes}
use Rattle.mich_bigmap.specs.Formed.{IsFormed, is_there}
use Rattle.mich_bigmap.specs.Standing.{big_step_in, change_step}
use Rattle.mich_bigmap.proofs.ForCallers.{found_over, none_in, none_sorted}
use Rattle.mich_stack.specs.Views.{Sight, seen}
use Rattle.mich_step.specs.Shown.{as_entries, shown, ShowsTickets}
use Rattle.mich_store_steps.specs.seen.Sights.{is_plain, entries_plain, is_layer, odd, seen_where, sight}
use Rattle.mich_store_steps.proofs.seen.ForCallers.{plain_tells, plain_seen, SoundLayer, layer, layer_of, layer_is, layer_alike, entries_tickets}
use Rattle.mich_store_steps.specs.big_maps.Given.{entries_by, entries_seen, seen_in}
use Rattle.mich_store_steps.specs.big_maps.Operands.{AreEntries}
use Rattle.mich_store_steps.proofs.big_maps_lemmas.Values.{AllValues, Plain, Ticketless, all_at, all_with, all_without, plain_all, ticketless_all, all_found}

-- ---- values without big maps

pub plain_in : (bs : Bases) (x : Value) → is_plain (val x) ≡ true → seen_in bs x ≡ val x
plain_in bs x h = plain_seen (sight bs) x (plain_tells big_step x h)

pub plain_val : (bs : Bases) (x : Value) → is_plain (seen_in bs x) ≡ true → seen_in bs x ≡ val x
plain_val bs x h = plain_seen (sight bs) x (plain_tells (sight bs) x h)

-- a value that is found is seen as it stands
pub found_seen : (bs : Bases) (k : Val) (ps : Pairs) (o : Option Value) → entries_plain ps ≡ true → option_map val o ≡ value_at k ps → option_map (seen_in bs) o ≡ value_at k ps
found_seen bs k ps None h e = e
found_seen bs k ps (Some x) h e = ap Some (plain_in bs x (all_at Plain k ps (val x) (plain_all ps h) (sym e))) ∙ e

pub lent_seen : (bs : Bases) (k : Val) (ps : Pairs) (o : Option (Bor Value)) → entries_plain ps ≡ true → option_map (λ x. val x.now) o ≡ value_at k ps → option_map (λ x. seen_in bs x.now) o ≡ value_at k ps
lent_seen bs k ps None h e = e
lent_seen bs k ps (Some x) h e = ap Some (plain_in bs x.now (all_at Plain k ps (val x.now) (plain_all ps h) (sym e))) ∙ e

pub big_seen : (big : Sight) (m : BigMap) → seen big (v.BigMap m) ≡ big_table (entries_by big m)
big_seen big m = ap (seen big) (sym (rolls-BigMap m)) ∙ fold-roll-Value Val Pairs value_step big (Value-F.BigMap m)

-- ---- its form

odd_is_not : (ts : List Held) → AreIncreasingKeys (odd ts) → ⊥
odd_is_not ts h = let e = h.0.0 in cc

twice_seen : (cs : Changes) → map change_step (map change cs) ≡ map seen_change cs
twice_seen [] = refl
twice_seen (c ∷ cs) = ap (λ t. seen_change c ∷ t) (twice_seen cs)

module _ (bs : Bases) where
  pub sound_here : (m : BigMap) → AreIncreasingKeys (entries_seen bs m) → SoundLayer bs (out-BigMap m)
  sound_here m h = go (is_layer bs (layer (sight bs) (out-BigMap m))) refl (subst AreIncreasingKeys (fold_out-BigMap Val Pairs value_step (sight bs) m) h)
    where
      go : (t : Bool) → is_layer bs (layer (sight bs) (out-BigMap m)) ≡ t → AreIncreasingKeys (seen_where t bs (layer (sight bs) (out-BigMap m))) → SoundLayer bs (out-BigMap m)
      go true test k = layer_of (sight bs) bs (out-BigMap m) test
      go false test k = absurd (odd_is_not (pair_tickets (puts (layer (sight bs) (out-BigMap m)).overlay)) k)

  -- it is seen as it stands
  pub seen_here : (m : BigMap) → SoundLayer bs (out-BigMap m) → entries_seen bs m ≡ big_in bs m
  seen_here m sound =
      let l = out-BigMap m in
      fold_out-BigMap Val Pairs value_step (sight bs) m
      ∙ ap (λ t. seen_where t bs (layer (sight bs) l)) (layer_is (sight bs) bs l sound)
      ∙ ap (big_step_in bs) (layer_alike (sight bs) bs l sound.formed.plain)
      ∙ ap (λ cs. changed cs (entries_in bs l.base)) (twice_seen l.overlay)

  -- without a base and without changes it has no entries
  pub none_seen : (m : BigMap) → (out-BigMap m).base ≡ None → (out-BigMap m).overlay ≡ [] → entries_seen bs m ≡ no_pair
  none_seen m b o =
      seen_here m (record {
        formed = record {
          keys = subst (λ cs. IsIncreasing (keys_of cs)) (sym o) none_sorted;
          puts = λ e. subst (λ cs. AllByRecursion (λ c. is_some c.1 ≡ true) cs) (sym o) tt;
          plain = subst (λ cs. AllByRecursion (λ c. PutsNoBigMap c.1) cs) (sym o) tt;
          ticketless = λ s. ap (λ cs. pair_tickets (put_pairs cs)) o;
        };
        based = ap (is_there bs) b;
      })
      ∙ (λ i. changed (seen_changes (o i)) (entries_in bs (b i))) ∙ none_in bs

  pub formed_of : (m : BigMap) → AreIncreasingKeys (entries_seen bs m) → IsFormed m
  formed_of m h = let f = (sound_here m h).formed in record { keys = f.keys; puts = f.puts }

-- ---- after a write

abbrev PutsNoTicket : Option Value → Type 0
PutsNoTicket None = Unit {0}
PutsNoTicket (Some x) = tickets (val x) ≡ []

both_none : (xs ys : List Held) → xs ≡ [] → ys ≡ [] → xs ++ ys ≡ []
both_none xs ys h k = (λ i. h i ++ k i)

none_put : (cs : Changes) → AllByRecursion (λ c. PutsNoTicket c.1) cs → pair_tickets (put_pairs cs) ≡ []
none_put [] h = refl
none_put (c ∷ cs) h = by c.1 h.0 (none_put cs h.1)
  where
    by : (o : Option Value) → PutsNoTicket o → pair_tickets (put_pairs cs) ≡ [] → pair_tickets (put_pairs ((c.0, o) ∷ cs)) ≡ []
    by None p later = later
    by (Some x) p later = both_none (tickets (val x)) (pair_tickets (put_pairs cs)) p later

module _ (bs : Bases) where
  put_plain : (ps : Pairs) (k : Val) (o : Option Value) → AllValues Plain ps → value_at k ps ≡ option_map val o → PutsNoBigMap o
  put_plain ps k None h e = tt
  put_plain ps k (Some x) h e = plain_tells big_step x (all_at Plain k ps (val x) h e)

  put_ticketless : (ps : Pairs) (k : Val) (o : Option Value) → AllValues Ticketless ps → value_at k ps ≡ option_map val o → PutsNoTicket o
  put_ticketless ps k None h e = tt
  put_ticketless ps k (Some x) h e = all_at Ticketless k ps (val x) h e

  -- what is formed, with entries that hold no big map, and where it has a base no ticket
  formed_again : (n : BigMap) → IsFormed n → AllValues Plain (big_in bs n) → (is_some (out-BigMap n).base ≡ true → AllValues Ticketless (big_in bs n)) → FormedLayer (out-BigMap n)
  formed_again n f plain ticketless =
      let l = out-BigMap n in
      record {
        keys = f.keys;
        puts = f.puts;
        plain = all_found PutsNoBigMap l.overlay f.keys (λ k o e. put_plain (big_in bs n) (datum k) o plain (found_over bs l.base k l.overlay o e));
        ticketless = λ s. none_put l.overlay (all_found PutsNoTicket l.overlay f.keys (λ k o e. put_ticketless (big_in bs n) (datum k) o (ticketless s) (found_over bs l.base k l.overlay o e)));
      }

  -- one that keeps all entries of another in itself is seen with the same
  pub alone_seen : (m n : BigMap) → AreEntries (entries_seen bs m) → IsFormed n → (out-BigMap n).base ≡ None → big_in bs n ≡ big_in bs m → entries_seen bs n ≡ entries_seen bs m
  alone_seen m n h formed base e =
      let same : big_in bs n ≡ entries_seen bs m = e ∙ sym (seen_here bs m (sound_here bs m h.0)) in
      let plain : AllValues Plain (big_in bs n) = subst (AllValues Plain) (sym same) (plain_all (entries_seen bs m) h.1) in
      seen_here bs n (record { formed = formed_again n formed plain (λ s. let no : false ≡ true = sym (ap is_some base) ∙ s in absurd cc); based = ap (is_there bs) base }) ∙ same

  -- the tickets that it is seen with are those that lie in it
  first_tickets : (ps qs : Pairs) → map shown (big_table ps ∷ []) ≡ map shown (big_table qs ∷ []) → pair_tickets ps ≡ pair_tickets qs
  first_tickets ps qs e =
      let same : as_entries (pair_tickets ps) ≡ as_entries (pair_tickets qs) = cc in
      sym (entries_tickets (pair_tickets ps)) ∙ ap pair_tickets same ∙ entries_tickets (pair_tickets qs)

  module _ (shows : (vs : List Value) → ShowsTickets (sight bs) vs) where
    tickets_here : (m : BigMap) → pair_tickets (entries_seen bs m) ≡ pair_tickets (big_pairs m)
    tickets_here m =
        first_tickets (entries_seen bs m) (big_pairs m)
        ((λ i. map shown (sym (big_seen (sight bs) m) i ∷ [])) ∙ shows (v.BigMap m ∷ []) ∙ (λ i. map shown (big_seen big_step m i ∷ [])))

    module _ (m n : BigMap) (h : AreEntries (entries_seen bs m)) (formed : IsFormed n) (base : (out-BigMap n).base ≡ (out-BigMap m).base) where
      sound : SoundLayer bs (out-BigMap m)
      sound = sound_here bs m h.0

      old_is : entries_seen bs m ≡ big_in bs m
      old_is = seen_here bs m sound

      old_plain : AllValues Plain (big_in bs m)
      old_plain = subst (AllValues Plain) old_is (plain_all (entries_seen bs m) h.1)

      old_ticketless : is_some (out-BigMap m).base ≡ true → AllValues Ticketless (big_in bs m)
      old_ticketless s =
          subst (AllValues Ticketless) old_is (ticketless_all (entries_seen bs m) (tickets_here m ∙ ap pair_tickets (big_is m) ∙ sound.formed.ticketless s))

      new_is : AllValues Plain (big_in bs n) → (is_some (out-BigMap m).base ≡ true → AllValues Ticketless (big_in bs n)) → entries_seen bs n ≡ big_in bs n
      new_is plain ticketless =
          seen_here bs n (record { formed = formed_again n formed plain (λ s. ticketless (sym (ap is_some base) ∙ s)); based = ap (is_there bs) base ∙ sound.based })

      pub put_seen : (k : Val) (x : Value) → is_plain (seen_in bs x) ≡ true → (is_some (out-BigMap m).base ≡ true → tickets (val x) ≡ []) → big_in bs n ≡ with_value k (val x) (big_in bs m) →
          entries_seen bs n ≡ with_value k (seen_in bs x) (entries_seen bs m)
      put_seen k x p t e =
          let same = plain_val bs x p in
          new_is (subst (AllValues Plain) (sym e) (all_with Plain k (val x) (big_in bs m) (ap is_plain (sym same) ∙ p) old_plain))
          (λ s. subst (AllValues Ticketless) (sym e) (all_with Ticketless k (val x) (big_in bs m) (t s) (old_ticketless s)))
          ∙ e ∙ (λ i. with_value k (sym same i) (sym old_is i))

      pub erased_seen : (k : Val) → big_in bs n ≡ without_key k (big_in bs m) → entries_seen bs n ≡ without_key k (entries_seen bs m)
      erased_seen k e =
          new_is (subst (AllValues Plain) (sym e) (all_without Plain k (big_in bs m) old_plain))
          (λ s. subst (AllValues Ticketless) (sym e) (all_without Ticketless k (big_in bs m) (old_ticketless s)))
          ∙ e ∙ ap (without_key k) (sym old_is)
