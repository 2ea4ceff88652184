-- The sight of a store that holds no tickets shows in each big map the tickets that lie in it.
use Rattle.std.proofs.Common.{◌≡◌, ℕ, Bool, true, false, List, [], ◌∷◌, ◌++◌, map, reverse, Some, None, refl, sym, ap, ◌∙◌, subst}
use Rattle.std.specs.Prelude.{is_some}
use Rattle.std.specs.declared.option.Option.{Option}
use Rattle.std.specs.declared.cmp.Ordering.{Ordering}
use Rattle.std.specs.declared.cmp.Ordering.TheVariants.{Less, Equal, Greater}
use Rattle.std.specs.Ordering.{match_ordering}
use Rattle.std.specs.Map.{keys_of}
use Rattle.std.proofs.lemmas.Bool.{and_parts}
use Rattle.rules_data.specs.values.Order.{order}
use Rattle.rules_data.specs.values.Tables.{with_value}
use Rattle.rules_data.specs.values.Tickets.{Held, tickets, all_tickets, pair_tickets}
use Rattle.rules_data.specs.values.Val.{Val, Vals, Pairs, no_val, more_vals, no_pair, more_pairs, some, left, right, both, list, table, big_table}
use Rattle.rules_data.specs.big_maps.Changes.{written, changed}
use Rattle.mich_term.specs.Keyed.{by}
use Rattle.mich_term.specs.View.{datum, vals_of, pairs_of}
use Rattle.mich_term.specs.ValueView.{val, value_step, big_step, puts, put_first}
use Rattle.mich_term.specs.declared.datum.Datum.{Datum}
use Rattle.mich_term.specs.declared.value.Value.{Value, roll-Value, ind-Value, fold-roll-Value, map-Value}
use Rattle.mich_term.specs.declared.value.Value.TheOpen.{Value-F, BigMap-F}
use Rattle.mich_term.specs.declared.value.Value.TheFolds.{fold-roll-BigMap, map-BigMap}
use Rattle.mich_term.specs.declared.value.BigMap.{BigMap, roll-BigMap}
use Rattle.mich_bigmap.specs.Bases.{Bases, entries_in}
use Rattle.mich_bigmap.specs.Standing.{change_step}
use Rattle.mich_bigmap.specs.Ticketless.{HoldNoTickets}
use Rattle.mich_bigmap.proofs.ForCallers.{none_in, none_in_store, none_with, none_without, nothing_of}
use Rattle.mich_stack.specs.Views.{Sight, seen}
use Rattle.mich_step.specs.Shown.{as_entries, shown, all_shown, entries_shown, ShowsTickets}
use Rattle.mich_store_steps.specs.seen.Sights.{Seen, is_less, are_above, are_increasing, all_put, is_none, bare_well, puts_well, is_layer, seen_where, sight}
use Rattle.mich_store_steps.proofs.seen.Parts.{big_seen}

-- ---- tickets as entries

pub entries_tickets : (ts : List Held) → pair_tickets (as_entries ts) ≡ ts
entries_tickets [] = refl
entries_tickets (t ∷ ts) = ap (λ us. t ∷ us) (entries_tickets ts)

mutual
  tickets_shown : (x : Val) → tickets (shown x) ≡ tickets x
  tickets_shown (some x) = tickets_shown x
  tickets_shown (left x) = tickets_shown x
  tickets_shown (right x) = tickets_shown x
  tickets_shown (both x y) = (λ i. tickets_shown x i ++ tickets_shown y i)
  tickets_shown (list xs) = all_tickets_shown xs
  tickets_shown (table ps) = pair_tickets_shown ps
  tickets_shown (big_table ps) = entries_tickets (pair_tickets ps)
  tickets_shown _ = refl

  all_tickets_shown : (xs : Vals) → all_tickets (all_shown xs) ≡ all_tickets xs
  all_tickets_shown no_val = refl
  all_tickets_shown (more_vals x xs) = (λ i. tickets_shown x i ++ all_tickets_shown xs i)

  pair_tickets_shown : (ps : Pairs) → pair_tickets (entries_shown ps) ≡ pair_tickets ps
  pair_tickets_shown no_pair = refl
  pair_tickets_shown (more_pairs k x ps) = (λ i. tickets_shown x i ++ pair_tickets_shown ps i)

alike_tickets : (x y : Val) → shown x ≡ shown y → tickets x ≡ tickets y
alike_tickets x y e = sym (tickets_shown x) ∙ ap tickets e ∙ tickets_shown y

-- ---- one level

-- changes that put no ticket
none_changed : (cs : Seen) (ps : Pairs) → pair_tickets (puts cs) ≡ [] → pair_tickets ps ≡ [] → pair_tickets (changed (map change_step cs) ps) ≡ []
none_changed [] ps t h = h
none_changed (c ∷ cs) ps t h = by c.1 t (λ t'. none_changed cs ps t' h)
  where
    by : (o : Option Val) → pair_tickets (put_first c.0 o (puts cs)) ≡ [] →
        (pair_tickets (puts cs) ≡ [] → pair_tickets (changed (map change_step cs) ps) ≡ []) →
        pair_tickets (written (datum c.0) o (changed (map change_step cs) ps)) ≡ []
    by None t' later = none_without (datum c.0) (changed (map change_step cs) ps) (later t')
    by (Some x) t' later =
        let parts = nothing_of (tickets x) (pair_tickets (puts cs)) t' in
        none_with (datum c.0) x (changed (map change_step cs) ps) parts.0 (later parts.1)

less_is : (o : Ordering) → is_less o ≡ true → o ≡ Less
less_is Less h = refl
less_is Equal h = cc
less_is Greater h = cc

-- a value before others with greater keys
put_before : (k : Datum) (x : Val) (cs : Seen) → all_put cs ≡ true → are_above k (keys_of cs) ≡ true → with_value (datum k) x (puts cs) ≡ more_pairs (datum k) x (puts cs)
put_before k x [] p a = refl
put_before k x (c ∷ cs) p a = by c.1 (and_parts (is_some c.1) (all_put cs) p).0
  where
    e : by k c.0 ≡ Less
    e = less_is (by k c.0) (and_parts (is_less (by k c.0)) (are_above k (keys_of cs)) a).0

    by : (o : Option Val) → is_some o ≡ true → with_value (datum k) x (put_first c.0 o (puts cs)) ≡ more_pairs (datum k) x (put_first c.0 o (puts cs))
    by None h = absurd cc
    by (Some y) h =
        ap (λ o. match_ordering o (more_pairs (datum k) x (more_pairs (datum c.0) y (puts cs))) (more_pairs (datum c.0) x (puts cs)) (more_pairs (datum c.0) y (with_value (datum k) x (puts cs)))) e

-- without a base it is what is put
alone_made : (cs : Seen) → all_put cs ≡ true → are_increasing (keys_of cs) ≡ true → changed (map change_step cs) no_pair ≡ puts cs
alone_made [] p s = refl
alone_made (c ∷ cs) p s =
    by c.1 (and_parts (is_some c.1) (all_put cs) p).0
    (alone_made cs (and_parts (is_some c.1) (all_put cs) p).1 (and_parts (are_above c.0 (keys_of cs)) (are_increasing (keys_of cs)) s).1)
  where
    by : (o : Option Val) → is_some o ≡ true → changed (map change_step cs) no_pair ≡ puts cs → written (datum c.0) o (changed (map change_step cs) no_pair) ≡ put_first c.0 o (puts cs)
    by None h later = absurd cc
    by (Some y) h later =
        ap (with_value (datum c.0) y) later
        ∙ put_before c.0 y cs (and_parts (is_some c.1) (all_put cs) p).1 (and_parts (are_above c.0 (keys_of cs)) (are_increasing (keys_of cs)) s).0

none_of : (ts : List Held) → is_none ts ≡ true → ts ≡ []
none_of [] h = refl
none_of (t ∷ ts) h = cc

module _ (bs : Bases) (ticketless : HoldNoTickets bs) where
  made_tickets : (base : Option ℕ) (cs : Seen) → are_increasing (keys_of cs) ≡ true → bare_well base (pair_tickets (puts cs)) ≡ true →
      puts_well base cs ≡ true → pair_tickets (changed (map change_step cs) (entries_in bs base)) ≡ pair_tickets (puts cs)
  made_tickets (Some k) cs s w p =
      let none = none_of (pair_tickets (puts cs)) w in none_changed cs (entries_in bs (Some k)) none (none_in_store bs (Some k) ticketless) ∙ sym none
  made_tickets None cs s w p = ap (λ ps. pair_tickets (changed (map change_step cs) ps)) (none_in bs) ∙ ap pair_tickets (alone_made cs p s)

  -- what a big map is seen as has the tickets that are put in it
  sight_tickets : (b : BigMap-F Val Pairs) → pair_tickets (sight bs b) ≡ pair_tickets (puts b.overlay)
  sight_tickets b = by (is_layer bs b) refl
    where
      by : (t : Bool) → is_layer bs b ≡ t → pair_tickets (seen_where t bs b) ≡ pair_tickets (puts b.overlay)
      by true h =
          let first = and_parts _ _ h in
          let second = and_parts _ _ first.1 in
          let third = and_parts _ _ second.1 in
          let fourth = and_parts _ _ third.1 in
          made_tickets b.base b.overlay second.0 third.0 fourth.0
      by false h = entries_tickets (pair_tickets (puts b.overlay))

  -- ---- all levels

  abbrev Alike : Value → Type 0
  Alike x = shown (seen (sight bs) x) ≡ shown (val x)

  abbrev AlikeBig : BigMap → Type 0
  AlikeBig b = pair_tickets (big_seen (sight bs) b) ≡ pair_tickets (big_seen big_step b)

  abbrev With : Type 0
  With = (x : Value) × Alike x

  abbrev WithBig : Type 0
  WithBig = (x : BigMap) × AlikeBig x

  abbrev low : Value-F With WithBig → Value-F Value BigMap
  low z = map-Value With WithBig Value BigMap (λ p. p.0) (λ p. p.0) z

  abbrev low_big : BigMap-F With WithBig → BigMap-F Value BigMap
  low_big z = map-BigMap With WithBig Value BigMap (λ p. p.0) (λ p. p.0) z

  abbrev stepped : Sight → Value-F Value BigMap → Val
  stepped big l = value_step (map-Value Value BigMap Val Pairs (seen big) (big_seen big) l)

  abbrev low_entry : Datum × With → Datum × Value
  low_entry p = (p.0, p.1.0)

  list_alike : (zs : List With) → all_shown (vals_of (map (seen (sight bs)) (map (λ p. p.0) zs))) ≡ all_shown (vals_of (map val (map (λ p. p.0) zs)))
  list_alike [] = refl
  list_alike (z ∷ zs) = (λ i. more_vals (z.1 i) (list_alike zs i))

  entries_alike : (zs : List (Datum × With)) →
      entries_shown (pairs_of (map (λ p. (p.0, seen (sight bs) p.1)) (map low_entry zs))) ≡ entries_shown (pairs_of (map (λ p. (p.0, val p.1)) (map low_entry zs)))
  entries_alike [] = refl
  entries_alike (z ∷ zs) = (λ i. more_pairs (datum z.0) (z.1.1 i) (entries_alike zs i))

  level : (z : Value-F With WithBig) → shown (stepped (sight bs) (low z)) ≡ shown (stepped big_step (low z))
  level Value-F.Unit = refl
  level (Value-F.Bool b) = refl
  level (Value-F.Number n) = refl
  level (Value-F.Text s) = refl
  level (Value-F.Bytes s) = refl
  level Value-F.None = refl
  level (Value-F.Some a) = ap some a.1
  level (Value-F.Left a) = ap left a.1
  level (Value-F.Right a) = ap right a.1
  level (Value-F.Pair a b) = (λ i. both (a.1 i) (b.1 i))
  level (Value-F.List zs) = ap list (list_alike zs)
  level (Value-F.Set ds) = refl
  level (Value-F.Map zs) = ap table (entries_alike zs)
  level (Value-F.BigMap a) = ap (λ ts. big_table (as_entries ts)) a.1
  level (Value-F.Lambda n r) = refl
  level (Value-F.Operation n) = refl
  level (Value-F.Ticket t) = refl

  at_level : (z : Value-F With WithBig) → Alike (roll-Value (low z))
  at_level z =
      ap shown (fold-roll-Value Val Pairs value_step (sight bs) (low z)) ∙ level z ∙ sym (ap shown (fold-roll-Value Val Pairs value_step big_step (low z)))

  abbrev layer : Sight → BigMap-F With WithBig → BigMap-F Val Pairs
  layer big z = map-BigMap Value BigMap Val Pairs (seen big) (big_seen big) (low_big z)

  puts_alike : (base : Option ℕ) (zs : List (Datum × Option With)) →
      pair_tickets (puts (layer (sight bs) (record { base = base; overlay = zs })).overlay) ≡ pair_tickets (puts (layer big_step (record { base = base; overlay = zs })).overlay)
  puts_alike base [] = refl
  puts_alike base (z ∷ zs) = by_case z.1 (puts_alike base zs)
    where
      by_case : (o : Option With) →
          pair_tickets (puts (layer (sight bs) (record { base = base; overlay = zs })).overlay) ≡ pair_tickets (puts (layer big_step (record { base = base; overlay = zs })).overlay) →
          pair_tickets (puts (layer (sight bs) (record { base = base; overlay = (z.0, o) ∷ zs })).overlay)
          ≡ pair_tickets (puts (layer big_step (record { base = base; overlay = (z.0, o) ∷ zs })).overlay)
      by_case None later = later
      by_case (Some x) later = (λ i. alike_tickets (seen (sight bs) x.0) (val x.0) x.1 i ++ later i)

  big_level : (z : BigMap-F With WithBig) → AlikeBig (roll-BigMap (low_big z))
  big_level z =
      ap pair_tickets (fold-roll-BigMap Val Pairs value_step (sight bs) (low_big z))
      ∙ sight_tickets (layer (sight bs) z) ∙ puts_alike z.base z.overlay
      ∙ sym (ap pair_tickets (fold-roll-BigMap Val Pairs value_step big_step (low_big z)))

  pub alike : (x : Value) → Alike x
  alike = ind-Value Alike AlikeBig (λ x y is. subst (λ z. Alike (roll-Value z)) is (at_level y)) (λ x y is. subst (λ z. AlikeBig (roll-BigMap z)) is (big_level y))

  -- so it has the tickets that lie in it
  pub seen_tickets : (x : Value) → tickets (seen (sight bs) x) ≡ tickets (val x)
  seen_tickets x = alike_tickets (seen (sight bs) x) (val x) (alike x)

  all_alike : (xs : List Value) → map shown (map (seen (sight bs)) xs) ≡ map shown (map val xs)
  all_alike [] = refl
  all_alike (x ∷ xs) = (λ i. alike x i ∷ all_alike xs i)

  pub sight_shows : (xs : List Value) → ShowsTickets (sight bs) xs
  sight_shows xs = all_alike (reverse xs)
