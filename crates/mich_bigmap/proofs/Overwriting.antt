-- Changes that are merged with those below them.
use Rattle.std.proofs.Common.{◌≡◌, ℕ, ◌==◌, true, false, List, [], ◌∷◌, ◌++◌, IfOk, Result, Ok, Err, Some, None, refl, sym, ap, ◌∙◌, subst}
use Rattle.std.specs.Prelude.{is_some, if◌then◌else◌}
use Rattle.std.specs.declared.option.Option.{Option}
use Rattle.std.specs.declared.cmp.Ordering.TheVariants.{Less, Equal, Greater}
use Rattle.std.specs.Ordering.{match_ordering}
use Rattle.std.specs.Map.{keys_of}
use Rattle.rules_data.specs.values.Val.{Pairs, no_pair}
use Rattle.rules_data.specs.values.Tickets.{Held, tickets, pair_tickets}
use Rattle.rules_data.specs.big_maps.Changes.{changed}
use Rattle.mich_base.specs.declared.memory.Memory.{Memory}
use Rattle.mich_term.specs.Keyed.{by, with, IsIncreasing}
use Rattle.mich_term.specs.ValueView.{val, pairs, put_pairs}
use Rattle.mich_term.specs.declared.datum.Datum.{Datum}
use Rattle.mich_term.specs.declared.value.Value.{Value}
use Rattle.mich_bigmap.specs.Bases.{Base, Bases, Changes, seen, entries_in, base_at}
use Rattle.mich_bigmap.specs.Extended.{Extends}
use Rattle.mich_bigmap.specs.Formed.{is_there}
use Rattle.mich_bigmap.specs.Merged.{AreMerged, Bare}
use Rattle.mich_bigmap.specs.Puts.{puts_for}
use Rattle.mich_bigmap.specs.Reached.{AreDistinct}
use Rattle.mich_bigmap.specs.Ticketless.{PutsNoTickets, HoldNoTickets}
use Rattle.mich_bigmap.proofs.Extending.{extends_more}
use Rattle.mich_bigmap.proofs.Putting.{puts_make, put_keys, put_pairs_for}
use Rattle.mich_bigmap.proofs.Settled.{extends_trans}

-- ---- tickets

none_of : (xs ys : List Held) → xs ++ ys ≡ [] → (xs ≡ []) × (ys ≡ [])
none_of [] ys h = (refl, h)
none_of (x ∷ xs) ys h = cc

no_more : (xs ys : List Held) → xs ≡ [] → ys ≡ [] → xs ++ ys ≡ []
no_more xs ys h k = (λ i. h i ++ k i)

pub parted : (k : Datum) (c : Option Value) (cs : Changes) → Bare ((k, c) ∷ cs) → Bare ((k, c) ∷ []) × Bare cs
parted k None cs h = (refl, h)
parted k (Some v) cs h = let p = none_of (tickets (val v)) (pair_tickets (put_pairs cs)) h in (no_more (tickets (val v)) [] p.0 refl, p.1)

joined : (k j : Datum) (c : Option Value) (cs : Changes) → Bare ((k, c) ∷ []) → Bare cs → Bare ((j, c) ∷ cs)
joined k j None cs h r = r
joined k j (Some v) cs h r = no_more (tickets (val v)) (pair_tickets (put_pairs cs)) (none_of (tickets (val v)) [] h).0 r

pub bare_with : (k : Datum) (c : Option Value) (cs : Changes) → Bare ((k, c) ∷ []) → Bare cs → Bare (with k c cs)
bare_with k c [] h b = h
bare_with k c (e ∷ es) h b =
    let p = parted e.0 e.1 es b in
    (elim (by k e.0) as (λ r. Bare (match_ordering r ((k, c) ∷ e ∷ es) ((e.0, c) ∷ es) (e ∷ with k c es))) [
      | Less ↦ joined k k c (e ∷ es) h b
      | Equal ↦ joined k e.0 c es h p.1
      | Greater ↦ joined e.0 e.0 e.1 (with k c es) p.0 (bare_with k c es h p.1)
    ])

-- ---- the bases below one

abbrev Place : Base × Bases → Base × Bases → Type 0
Place p q = p ≡ q

missing : (o : Option (Base × Bases)) → is_some o ≡ false → o ≡ None
missing None h = refl
missing (Some p) h = cc

-- they stand for the same with those above them
pub below_extends : (bs : Bases) (k : ℕ) (b : Base) (rest : Bases) → AreDistinct bs → base_at bs k ≡ Some (b, rest) → Extends rest bs
below_extends [] k b rest d h = cc
below_extends (c ∷ bs) k b rest d h =
    let more : Extends bs (c ∷ bs) = extends_more bs (c ∷ bs) c (missing (base_at bs c.number) d.0) refl in
    (elim (c.number == k) as (λ t. (if t then Some (c, bs) else base_at bs k) ≡ Some (b, rest) → Extends rest (c ∷ bs)) [
      | true ↦ λ q. let e : Place (c, bs) (b, rest) = cc in subst (λ (p : Base × Bases). Extends p.1 (c ∷ bs)) e more
      | false ↦ λ q. extends_trans rest bs (c ∷ bs) (below_extends bs k b rest d.1 q) more
    ]) h

pub below_ticketless : (bs : Bases) (k : ℕ) (b : Base) (rest : Bases) → base_at bs k ≡ Some (b, rest)
    → HoldNoTickets bs → PutsNoTickets b × HoldNoTickets rest
below_ticketless [] k b rest h t = cc
below_ticketless (c ∷ bs) k b rest h t = (elim (c.number == k) as (λ a. (if a then Some (c, bs) else base_at bs k) ≡ Some (b, rest)
    → PutsNoTickets b × HoldNoTickets rest) [
      | true ↦ λ q. let e : Place (c, bs) (b, rest) = cc in subst (λ (p : Base × Bases). PutsNoTickets p.0 × HoldNoTickets p.1) e t
      | false ↦ λ q. below_ticketless bs k b rest q t.1
    ]) h

-- ---- what is handed on from the bases below

abbrev pub Answer : Type 0
Answer = Result (Option ℕ × Changes) Memory

pub handed_same : (r : Answer) (rest bs : Bases) (ps qs : Pairs) → Extends rest bs → IfOk r (λ a. is_there rest a.0 ≡ true)
    → IfOk r (λ a. changed (seen a.1) (entries_in rest a.0) ≡ ps) → ps ≡ qs → IfOk r (λ a. changed (seen a.1) (entries_in bs a.0) ≡ qs)
handed_same (Ok a) rest bs ps qs x t h e = ap (changed (seen a.1)) (x.same a.0 t) ∙ h ∙ e
handed_same (Err m) rest bs ps qs x t h e = tt

pub handed_there : (r : Answer) (rest bs : Bases) → Extends rest bs → IfOk r (λ a. is_there rest a.0 ≡ true)
    → IfOk r (λ a. is_there bs a.0 ≡ true)
handed_there (Ok a) rest bs x t = x.there a.0 t
handed_there (Err m) rest bs x t = tt

-- ---- changes as an answer

pub made_merged : (r : Result Changes Memory) (lower upper all : Changes) → IfOk r (λ cs. cs ≡ all)
    → AreMerged lower upper all → IfOk r (λ cs. AreMerged lower upper cs)
made_merged (Ok cs) lower upper all e h = subst (AreMerged lower upper) (sym e) h
made_merged (Err m) lower upper all e h = tt

pub made_increasing : (r : Result Changes Memory) (all : Changes) → IfOk r (λ cs. cs ≡ all)
    → IsIncreasing (keys_of all) → IfOk r (λ cs. IsIncreasing (keys_of cs))
made_increasing (Ok cs) all e h = subst (λ (ds : Changes). IsIncreasing (keys_of ds)) (sym e) h
made_increasing (Err m) all e h = tt

pub made_bare : (r : Result Changes Memory) (lower upper all : Changes) → IfOk r (λ cs. cs ≡ all)
    → (Bare lower → Bare upper → Bare all) → IfOk r (λ cs. Bare lower → Bare upper → Bare cs)
made_bare (Ok cs) lower upper all e h = λ a b. subst Bare (sym e) (h a b)
made_bare (Err m) lower upper all e h = tt

-- ---- changes that only put

pub put_entries : (r : Result Changes Memory) (es : List (Datum × Value)) (ps : Pairs) → IfOk r (λ cs. cs ≡ puts_for es)
    → IsIncreasing (keys_of es) → pairs es ≡ ps
    → IfOk r (λ cs. changed (seen cs) no_pair ≡ ps)
put_entries (Ok cs) es ps e s h = ap (λ (ds : Changes). changed (seen ds) no_pair) e ∙ puts_make es s ∙ h
put_entries (Err m) es ps e s h = tt

pub put_increasing : (r : Result Changes Memory) (es : List (Datum × Value)) → IfOk r (λ cs. cs ≡ puts_for es)
    → IsIncreasing (keys_of es) → IfOk r (λ cs. IsIncreasing (keys_of cs))
put_increasing (Ok cs) es e s = subst IsIncreasing (sym (ap keys_of e ∙ put_keys es)) s
put_increasing (Err m) es e s = tt

pub put_puts : (r : Result Changes Memory) (es : List (Datum × Value)) (ps : Pairs) → IfOk r (λ cs. cs ≡ puts_for es)
    → pairs es ≡ ps → IfOk r (λ cs. put_pairs cs ≡ ps)
put_puts (Ok cs) es ps e h = ap put_pairs e ∙ put_pairs_for es ∙ h
put_puts (Err m) es ps e h = tt
