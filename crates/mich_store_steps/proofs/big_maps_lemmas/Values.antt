-- What is so of each value of a big map stays so of them after a write.
use Rattle.std.proofs.Common.{◌≡◌, Bool, true, false, List, [], ◌∷◌, ◌++◌, Some, None, refl, sym, ap, ◌∙◌, subst}
use Rattle.std.specs.Prelude.{if◌then◌else◌, is_some, option_map}
use Rattle.std.specs.declared.option.Option.{Option}
use Rattle.std.specs.declared.cmp.Ordering.TheVariants.{Less, Equal, Greater}
use Rattle.std.specs.Ordering.{match_ordering, is_eq}
use Rattle.std.specs.List.{AllByRecursion}
use Rattle.std.specs.List.Sorted.{IsStrictlySortedBy}
use Rattle.std.specs.Map.{keys_of}
use Rattle.std.specs.BTreeMap.{is_at}
use Rattle.std.proofs.lemmas.Bool.{and_parts, and_from}
use Rattle.std.proofs.lemmas.Cmp.{eq_by_cmp_equiv, tied_itself}
use Rattle.std.proofs.lemmas.Map.{lookup-none}
use Rattle.std.proofs.lemmas.Map.Keys.{IsDistinct-from_sorted}
use Rattle.std.proofs.lemmas.Map.Entries.{lookup_head, lookup_tail, none_past_head}
use Rattle.rules_data.specs.values.Val.{Val, Pairs, no_pair, more_pairs}
use Rattle.rules_data.specs.values.Order.{order}
use Rattle.rules_data.specs.values.Tables.{value_at, with_value, without_key}
use Rattle.rules_data.specs.values.Tickets.{Held, tickets, pair_tickets}
use Rattle.mich_term.specs.Keyed.{by, found, IsIncreasing}
use Rattle.mich_term.specs.declared.datum.Datum.{Datum}
use Rattle.mich_term.specs.declared.value.Value.{Value}
use Rattle.mich_bigmap.specs.Bases.{Changes}
use Rattle.mich_bigmap.proofs.ForCallers.{by_lawful}
use Rattle.mich_store_steps.specs.seen.Sights.{is_plain, entries_plain}

pub some_mapped : {A B : Type 0} (f : A → B) (o : Option A) → is_some (option_map f o) ≡ is_some o
some_mapped f (Some x) = refl
some_mapped f None = refl

-- ---- each value of some entries

abbrev pub AllValues : (Val → Type 0) → Pairs → Type 0
AllValues P no_pair = Unit {0}
AllValues P (more_pairs k v ps) = P v × AllValues P ps

same_some : (v x : Val) → Some v ≡ Some x → v ≡ x
same_some v x e = cc

module _ (P : Val → Type 0) where
  pub all_at : (k : Val) (ps : Pairs) (x : Val) → AllValues P ps → value_at k ps ≡ Some x → P x
  all_at k no_pair x h e = absurd cc
  all_at k (more_pairs j v ps) x h e = by (is_eq (order k j)) (λ f. all_at k ps x h.1 f) e
    where
      by : (b : Bool) → (value_at k ps ≡ Some x → P x) → (if b then Some v else value_at k ps) ≡ Some x → P x
      by true later f = subst P (same_some v x f) h.0
      by false later f = later f

  pub all_with : (k x : Val) (ps : Pairs) → P x → AllValues P ps → AllValues P (with_value k x ps)
  all_with k x no_pair p h = (p, tt)
  all_with k x (more_pairs j w ps) p h =
      (elim (order k j) as (λ o. AllValues P (match_ordering o (more_pairs k x (more_pairs j w ps)) (more_pairs j x ps) (more_pairs j w (with_value k x ps)))) [
        | Less ↦ (p, h)
        | Equal ↦ (p, h.1)
        | Greater ↦ (h.0, all_with k x ps p h.1)
      ])

  pub all_without : (k : Val) (ps : Pairs) → AllValues P ps → AllValues P (without_key k ps)
  all_without k no_pair h = tt
  all_without k (more_pairs j w ps) h =
      (elim (is_eq (order k j)) as (λ b. AllValues P (if b then ps else more_pairs j w (without_key k ps))) [
        | true ↦ h.1
        | false ↦ (h.0, all_without k ps h.1)
      ])

-- ---- no big map, and no ticket

abbrev pub Plain : Val → Type 0
Plain v = is_plain v ≡ true

abbrev pub Ticketless : Val → Type 0
Ticketless v = tickets v ≡ []

pub plain_all : (ps : Pairs) → entries_plain ps ≡ true → AllValues Plain ps
plain_all no_pair h = tt
plain_all (more_pairs k v ps) h = let q = and_parts (is_plain v) (entries_plain ps) h in (q.0, plain_all ps q.1)

pub all_plain : (ps : Pairs) → AllValues Plain ps → entries_plain ps ≡ true
all_plain no_pair h = refl
all_plain (more_pairs k v ps) h = and_from (is_plain v) (entries_plain ps) h.0 (all_plain ps h.1)

nothing_of : (xs ys : List Held) → xs ++ ys ≡ [] → (xs ≡ []) × (ys ≡ [])
nothing_of [] ys h = (refl, h)
nothing_of (x ∷ xs) ys h = cc

pub ticketless_all : (ps : Pairs) → pair_tickets ps ≡ [] → AllValues Ticketless ps
ticketless_all no_pair h = tt
ticketless_all (more_pairs k v ps) h = let q = nothing_of (tickets v) (pair_tickets ps) h in (q.0, ticketless_all ps q.1)

-- ---- changes by increasing keys

at_head : (c : Datum × Option Value) (cs : Changes) → found c.0 (c ∷ cs) ≡ Some c.1
at_head c cs = lookup_head (is_at (by c.0)) c cs (ap is_eq (tied_itself by_lawful c.0))

not_none : (o : Option Value) → Some o ≡ None → ⊥
not_none o e = cc

past : (c : Datum × Option Value) (cs : Changes) (k : Datum) (o : Option Value) → IsIncreasing (keys_of (c ∷ cs)) → found k cs ≡ Some o → found k (c ∷ cs) ≡ Some o
past c cs k o s f = go (is_eq (by k c.0)) refl
  where
    go : (b : Bool) → is_eq (by k c.0) ≡ b → found k (c ∷ cs) ≡ Some o
    go true e = absurd (not_none o (sym f ∙ lookup-none (is_at (by k)) cs (none_past_head (eq_by_cmp_equiv by_lawful) k c cs (IsDistinct-from_sorted by _ s) e)))
    go false e = lookup_tail (is_at (by k)) c cs e ∙ f

-- what is so of each change that is found is so of all
pub all_found : (P : Option Value → Type 0) (cs : Changes) → IsIncreasing (keys_of cs) → ((k : Datum) (o : Option Value) → found k cs ≡ Some o → P o) → AllByRecursion (λ c. P c.1) cs
unfolding IsStrictlySortedBy
all_found P [] s h = tt
all_found P (c ∷ cs) s h = (h c.0 c.1 (at_head c cs), all_found P cs s.1 (λ k o f. h k o (past c cs k o s f)))
