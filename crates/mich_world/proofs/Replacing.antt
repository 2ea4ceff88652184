-- Tickets that come in the place of others.
use Rattle.std.proofs.Common.{◌≡◌, ℕ, ℤ, Bool, true, false, List, [], Some, refl, sym, ap, ◌∙◌, subst, arith}
use Rattle.std.specs.Prelude.{pos, neg_ℤ, ◌+ℤ◌, ◌≤ℤ◌, if◌then◌else◌}
use Rattle.std.specs.Str.{bytes_eq}
use Rattle.std.proofs.lemmas.Int.{ints}
use Rattle.std.proofs.lemmas.Slice.Eq.{bytes_eq-Decides}
use Rattle.std.specs.declared.option.Option.{Option}
use Rattle.rules_data.specs.values.Tickets.{Identity, Held, tickets}
use Rattle.mich_term.specs.ValueView.{val}
use Rattle.rules_code.specs.steps.Changes.{amount_among}
use Rattle.mich_tickets.specs.Books.{Books}
use Rattle.mich_tickets.specs.Carrying.{MayEnter, MayLeave, Enters, Leaves}
use Rattle.mich_tickets.specs.Most.{most}
use Rattle.mich_tickets.specs.Sums.{held_of}
use Rattle.mich_world.specs.Storages.{stored_tickets, MayReplace, Replaces}
use Rattle.mich_world.specs.declared.contract.Contract.{Contract}

-- when the first are gone, the others may come
pub may_enter : (owner : List ℕ) (b between : Books) (before after : List Held) → MayReplace owner b before after → Leaves owner before b between → MayEnter owner between after
may_enter owner b between before after m l = record {
  positive = m.positive;
  fits = λ j. subst (λ (z : ℤ). (z +ℤ amount_among j after) ≤ℤ most) (sym (left j)) (m.fits j);
}
  where
    own : (n : ℤ) → (if bytes_eq owner owner then n else pos 0) ≡ n
    own n = ap (λ c. if c then n else pos 0) ((bytes_eq-Decides owner owner).1 refl)

    left : (j : Identity) → held_of between j owner ≡ held_of b j owner +ℤ neg_ℤ (amount_among j before)
    left j = l.held j owner ∙ ap (λ (z : ℤ). held_of b j owner +ℤ z) (own (neg_ℤ (amount_among j before)))

-- ---- of a contract that is there

pub may_leave_stored : (owner : List ℕ) (b : Books) (o : Option Contract) (c : Contract) (after : List Held) → MayReplace owner b (stored_tickets o) after → Some c ≡ o
    → MayLeave owner b (tickets (val c.storage))
may_leave_stored owner b o c after m e = subst (λ (x : Option Contract). MayLeave owner b (stored_tickets x)) (sym e) m.leave

pub may_enter_stored : (owner : List ℕ) (b between : Books) (o : Option Contract) (c : Contract) (after : List Held) → MayReplace owner b (stored_tickets o) after → Some c ≡ o
    → Leaves owner (tickets (val c.storage)) b between → MayEnter owner between after
may_enter_stored owner b between o c after m e l =
    may_enter owner b between (stored_tickets o) after m (subst (λ (x : Option Contract). Leaves owner (stored_tickets x) b between) e l)

pub replaces_stored : (owner : List ℕ) (b between new : Books) (o : Option Contract) (c : Contract) (after : List Held) → Some c ≡ o
    → Leaves owner (tickets (val c.storage)) b between → Enters owner after between new → Replaces owner (stored_tickets o) after b new
replaces_stored owner b between new o c after e l n =
    record { between = between; left = subst (λ (x : Option Contract). Leaves owner (stored_tickets x) b between) e l; entered = n }

-- ---- no tickets in the place of none

no_more : (c : Bool) (x : ℤ) → x ≡ x +ℤ (if c then pos 0 else pos 0)
no_more true x = omega (arith, ints)
no_more false x = omega (arith, ints)

none_left : (owner : List ℕ) (b : Books) → Leaves owner [] b b
none_left owner b = record { held = λ j o. no_more (bytes_eq o owner) (held_of b j o); totals = λ j. refl; listed = refl }

none_entered : (owner : List ℕ) (b : Books) → Enters owner [] b b
none_entered owner b = record { held = λ j o. no_more (bytes_eq o owner) (held_of b j o); totals = λ j. refl; listed = refl }

pub replaces_none : (owner : List ℕ) (b : Books) (before after : List Held) → before ≡ [] → after ≡ [] → Replaces owner before after b b
replaces_none owner b before after p q = record {
  between = b;
  left = subst (λ (ts : List Held). Leaves owner ts b b) (sym p) (none_left owner b);
  entered = subst (λ (ts : List Held). Enters owner ts b b) (sym q) (none_entered owner b);
}
