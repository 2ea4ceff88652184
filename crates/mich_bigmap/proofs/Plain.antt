-- Big maps whose values hold no big map, and the tickets in values over a store that holds none.
use Rattle.std.proofs.Common.{◌≡◌, ℕ, true, false, List, [], ◌∷◌, ◌++◌, Some, None, refl, sym, ap, ◌∙◌, subst}
use Rattle.std.specs.Prelude.{option_map, is_some, if◌then◌else◌, ◌==◌}
use Rattle.std.specs.declared.option.Option.{Option}
use Rattle.std.specs.declared.cmp.Ordering.TheVariants.{Less, Equal, Greater}
use Rattle.std.specs.Ordering.{match_ordering, is_eq}
use Rattle.std.specs.List.{AllByRecursion}
use Rattle.std.specs.Map.{keys_of}
use Rattle.rules_data.specs.values.Val.{Val, Pairs, no_pair, more_pairs}
use Rattle.rules_data.specs.values.Order.{order}
use Rattle.rules_data.specs.values.Tables.{with_value, without_key}
use Rattle.rules_data.specs.values.Tickets.{Held, tickets, all_tickets, pair_tickets}
use Rattle.rules_data.specs.big_maps.Changes.{written, changed}
use Rattle.mich_term.specs.Keyed.{IsIncreasing}
use Rattle.mich_term.specs.View.{datum}
use Rattle.mich_term.specs.ValueView.{val, big_step, big_pairs, put_pairs}
use Rattle.mich_term.specs.declared.datum.Datum.{Datum}
use Rattle.mich_term.specs.declared.value.Value.{Value}
use Rattle.mich_term.specs.declared.value.BigMap.{BigMap, out-BigMap, roll-out-BigMap}
use Rattle.mich_term.proofs.ForCallers.{big_is, both_nothing}
use Rattle.mich_bigmap.specs.Bases.{Bases, Changes, entries_in, seen, big_in}
use Rattle.mich_bigmap.specs.Puts.{puts_for}
use Rattle.mich_bigmap.specs.Standing.{val_in, changes_in, big_val_in, big_step_in}
use Rattle.mich_term.specs.Layers.{PutsNoBigMap, FormedLayer}
use Rattle.mich_bigmap.specs.Ticketless.{HoldNoTickets}
use Rattle.mich_term.proofs.ForCallers.Each as e
use Rattle.mich_bigmap.proofs.Meaning.{none_in}
use Rattle.mich_bigmap.proofs.Putting.{puts_make, put_keys, put_pairs_for}
use Rattle.mich_bigmap.proofs.Staying.{AreAlike, agree, val_plain, big_opens}

-- ---- a big map is seen by its overlay alone

put_plain : (bs : Bases) (o : Option Value) → PutsNoBigMap o → option_map (val_in bs) o ≡ option_map val o
put_plain bs None h = refl
put_plain bs (Some v) h = ap Some (val_plain bs v h)

changes_plain : (bs : Bases) (cs : Changes) → AllByRecursion (λ c. PutsNoBigMap c.1) cs → changes_in bs cs ≡ seen cs
changes_plain bs [] h = refl
changes_plain bs (c ∷ cs) h = (λ i. (datum c.0, put_plain bs c.1 h.0 i) ∷ changes_plain bs cs h.1 i)

pub big_val_is : (bs : Bases) (b : BigMap) → FormedLayer (out-BigMap b) → big_val_in bs b ≡ big_in bs b
big_val_is bs b f =
    ap (big_val_in bs) (sym (roll-out-BigMap b)) ∙ big_opens bs (out-BigMap b)
    ∙ ap (λ cs. changed cs (entries_in bs (out-BigMap b).base)) (changes_plain bs (out-BigMap b).overlay f.plain)

-- ---- without a base it is what its overlay puts

put_of : (o : Option Value) → is_some o ≡ true → (v : Value) × (o ≡ Some v)
put_of None h = cc
put_of (Some v) h = (v, refl)

puts_are : (cs : Changes) → AllByRecursion (λ c. is_some c.1 ≡ true) cs → (es : List (Datum × Value)) × (cs ≡ puts_for es)
puts_are [] h = ([], refl)
puts_are (c ∷ cs) h =
    let v = put_of c.1 h.0 in
    let more = puts_are cs h.1 in
    ((c.0, v.0) ∷ more.0, (λ i. (c.0, v.1 i) ∷ more.1 i))

pub alone_is : (cs : Changes) → AllByRecursion (λ c. is_some c.1 ≡ true) cs → IsIncreasing (keys_of cs) → changed (seen cs) no_pair ≡ put_pairs cs
alone_is cs h s =
    let es = puts_are cs h in
    let sorted : IsIncreasing (keys_of es.0) = subst IsIncreasing (ap keys_of es.1 ∙ put_keys es.0) s in
    ap (λ ds. changed (seen ds) no_pair) es.1 ∙ puts_make es.0 sorted ∙ sym (put_pairs_for es.0) ∙ ap put_pairs (sym es.1)

-- ---- tickets

pub nothing_of : (xs ys : List Held) → xs ++ ys ≡ [] → (xs ≡ []) × (ys ≡ [])
nothing_of [] ys h = (refl, h)
nothing_of (x ∷ xs) ys h = cc

pub none_with : (k v : Val) (ps : Pairs) → tickets v ≡ [] → pair_tickets ps ≡ [] → pair_tickets (with_value k v ps) ≡ []
none_with k v no_pair t h = both_nothing (tickets v) [] t refl
none_with k v (more_pairs j w ps) t h =
    let parts = nothing_of (tickets w) (pair_tickets ps) h in
    (elim (order k j) as (λ o. pair_tickets (match_ordering o (more_pairs k v (more_pairs j w ps)) (more_pairs j v ps) (more_pairs j w (with_value k v ps))) ≡ []) [
      | Less ↦ both_nothing (tickets v) (tickets w ++ pair_tickets ps) t h
      | Equal ↦ both_nothing (tickets v) (pair_tickets ps) t parts.1
      | Greater ↦ both_nothing (tickets w) (pair_tickets (with_value k v ps)) parts.0 (none_with k v ps t parts.1)
    ])

pub none_without : (k : Val) (ps : Pairs) → pair_tickets ps ≡ [] → pair_tickets (without_key k ps) ≡ []
none_without k no_pair h = refl
none_without k (more_pairs j w ps) h =
    let parts = nothing_of (tickets w) (pair_tickets ps) h in
    (elim (is_eq (order k j)) as (λ b. pair_tickets (if b then ps else more_pairs j w (without_key k ps)) ≡ []) [
      | true ↦ parts.1
      | false ↦ both_nothing (tickets w) (pair_tickets (without_key k ps)) parts.0 (none_without k ps parts.1)
    ])

pub none_changed : (cs : Changes) (ps : Pairs) → pair_tickets (put_pairs cs) ≡ [] → pair_tickets ps ≡ [] → pair_tickets (changed (seen cs) ps) ≡ []
none_changed [] ps t h = h
none_changed (c ∷ cs) ps t h = by c.1 t (λ t'. none_changed cs ps t' h)
  where
    by : (o : Option Value) → pair_tickets (put_pairs ((c.0, o) ∷ cs)) ≡ [] →
        (pair_tickets (put_pairs cs) ≡ [] → pair_tickets (changed (seen cs) ps) ≡ []) →
        pair_tickets (written (datum c.0) (option_map val o) (changed (seen cs) ps)) ≡ []
    by None t' later = none_without (datum c.0) (changed (seen cs) ps) (later t')
    by (Some v) t' later =
        let parts = nothing_of (tickets (val v)) (pair_tickets (put_pairs cs)) t' in
        none_with (datum c.0) (val v) (changed (seen cs) ps) parts.0 (later parts.1)

-- a store that holds no tickets has none in its entries
pub none_in_store : (bs : Bases) (o : Option ℕ) → HoldNoTickets bs → pair_tickets (entries_in bs o) ≡ []
none_in_store [] o h = refl
none_in_store (b ∷ bs) None h = refl
none_in_store (b ∷ bs) (Some k) h =
    (elim (b.number == k) as (λ t. pair_tickets (if t then changed (seen b.changes) (entries_in bs b.over) else entries_in bs (Some k)) ≡ []) [
      | true ↦ none_changed b.changes (entries_in bs b.over) h.0 (none_in_store bs b.over h.1)
      | false ↦ none_in_store bs (Some k) h.1
    ])

big_tickets_by : (bs : Bases) (b : BigMap) (o : Option ℕ) → HoldNoTickets bs → FormedLayer (out-BigMap b) → (out-BigMap b).base ≡ o →
    pair_tickets (big_in bs b) ≡ pair_tickets (put_pairs (out-BigMap b).overlay)
big_tickets_by bs b (Some k) h f s =
    let none = f.ticketless (ap is_some s) in
    none_changed (out-BigMap b).overlay (entries_in bs (out-BigMap b).base) none (none_in_store bs (out-BigMap b).base h) ∙ sym none
big_tickets_by bs b None h f s =
    ap (λ ps. pair_tickets (changed (seen (out-BigMap b).overlay) ps)) (ap (entries_in bs) s ∙ none_in bs)
    ∙ ap pair_tickets (alone_is (out-BigMap b).overlay (f.puts s) f.keys)

-- the tickets of a big map are those that its overlay puts
pub big_tickets : (bs : Bases) (b : BigMap) → HoldNoTickets bs → FormedLayer (out-BigMap b) → pair_tickets (big_val_in bs b) ≡ pair_tickets (big_pairs b)
big_tickets bs b h f =
    ap pair_tickets (big_val_is bs b f) ∙ big_tickets_by bs b (out-BigMap b).base h f refl ∙ ap pair_tickets (sym (big_is b))

same_tickets : AreAlike (λ v w. tickets v ≡ tickets w) (λ v w. all_tickets v ≡ all_tickets w) (λ v w. pair_tickets v ≡ pair_tickets w)
same_tickets = record {
  same = λ v. refl;
  somes = λ v w h. h;
  lefts = λ v w h. h;
  rights = λ v w h. h;
  boths = λ v w x y h k i. h i ++ k i;
  lists = λ v w h. h;
  tables = λ v w h. h;
  bigs = λ v w h. h;
  no_vals = refl;
  more = λ v w vs ws h k i. h i ++ k i;
  no_pairs = refl;
  entries = λ k v w ps qs h t i. h i ++ t i;
}

-- over a store that holds no tickets, a value has the tickets that lie in it
pub tickets_in_store : (bs : Bases) (v : Value) → HoldNoTickets bs → e.Each FormedLayer v → tickets (val_in bs v) ≡ tickets (val v)
tickets_in_store bs v h = agree same_tickets (big_step_in bs) big_step FormedLayer (λ z f. big_tickets bs _ h (e.here FormedLayer _ f)) v
