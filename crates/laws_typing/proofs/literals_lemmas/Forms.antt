-- What is read of a literal has the form of its type and holds no ticket.
use Rattle.std.proofs.Common.{◌≡◌, ◌<◌, ◌^◌, ℕ, true, List, [], ◌∷◌, ◌++◌, refl, sym, arith}
use mathlib.Core.Bool.{true≢false}
use Rattle.rules_text.specs.nodes.Tree.{size}
use Rattle.rules_data.specs.declared.types.Simple.{Simple}
use Rattle.rules_data.specs.declared.types.Simple.TheVariants as s
use Rattle.rules_data.specs.types.Kind.{Kind}
use Rattle.rules_data.specs.values.Val.{Val, Vals, no_val, more_vals, Pairs, no_pair, more_pairs}
use Rattle.rules_data.specs.values.Val as v
use Rattle.rules_data.specs.values.Forms.{has_simple_form, AllHave, AllEntriesHave, HasForm}
use Rattle.rules_data.specs.values.Tickets.{Held, tickets, all_tickets, pair_tickets}
use Rattle.rules_data.specs.values.Literals.{Pending, body, claim}
use Rattle.laws_typing.specs.literals.Laws.{AllAtMost, LiteralsHaveForm, LiteralsHoldNoTicket}
use Rattle.laws_typing.proofs.literals_lemmas.Read.{IsMade, AllTried, read_has}
use Rattle.laws_typing.proofs.literals_lemmas.Sizes.{bodies_within}

-- ---- forms

abbrev IsSmall : Pending → Type 0
IsSmall (body l a r recursive t) = size t < 2 ^ 32
IsSmall (claim l b a) = Unit {0}

forms_made : IsMade HasForm IsSmall
forms_made = record {
  simple = λ s x h. h;
  none = λ a. tt;
  some = λ a x h. h;
  left = λ a b x h. h;
  right = λ a b x h. h;
  both = λ a b x y h i. (h, i);
  list = λ a xs h. h;
  set = λ a xs h i. (h, i);
  table = λ a b es h i. (h, i);
  big_table = λ a b es h i. (h, i);
  lambda = λ a b at recursive ts g. (tt, g);
  contract = λ a at b h g. h;
}

all_small : (n : ℕ) (ps : List Pending) → n < 2 ^ 32 → AllAtMost n ps → AllTried IsSmall ps
all_small n [] below h = tt
all_small n (body l a r recursive t ∷ ps) below h = (let e = h.0 in omega (arith, e, below), all_small n ps below h.1)
all_small n (claim l b a ∷ ps) below h = (tt, all_small n ps below h)

pub literals_have_form : LiteralsHaveForm
literals_have_form a at t x ps same below = read_has HasForm IsSmall forms_made a at t x ps same (all_small (size t) ps below (bodies_within a at t x ps same))

-- ---- tickets

abbrev HasNoTicket : Kind → Val → Type 0
HasNoTicket a x = tickets x ≡ []

abbrev Anything : Pending → Type 0
Anything p = Unit {0}

nothing : (xs ys : List Held) → xs ≡ [] → ys ≡ [] → xs ++ ys ≡ []
nothing xs ys h i = λ j. h j ++ i j

no_tickets : (xs : Vals) → AllHave (λ x. tickets x ≡ []) xs → all_tickets xs ≡ []
no_tickets no_val h = refl
no_tickets (more_vals x xs) h = nothing (tickets x) (all_tickets xs) h.0 (no_tickets xs h.1)

no_entry_tickets : (es : Pairs) → AllEntriesHave (λ x. tickets x ≡ []) (λ x. tickets x ≡ []) es → pair_tickets es ≡ []
no_entry_tickets no_pair h = refl
no_entry_tickets (more_pairs x y es) h = nothing (tickets y) (pair_tickets es) h.1 (no_entry_tickets es h.2)

simple_holds_none : (u : Simple) (x : Val) → has_simple_form u x ≡ true → tickets x ≡ []
simple_holds_none s.Unit v.unit h = refl
simple_holds_none s.Bool (v.truth b) h = refl
simple_holds_none s.Int (v.number n) h = refl
simple_holds_none s.Timestamp (v.number n) h = refl
simple_holds_none s.Nat (v.number n) h = refl
simple_holds_none s.Mutez (v.number n) h = refl
simple_holds_none s.String (v.text b) h = refl
simple_holds_none s.Bytes (v.bytes b) h = refl
simple_holds_none s.KeyHash (v.bytes b) h = refl
simple_holds_none s.Key (v.bytes b) h = refl
simple_holds_none s.Signature (v.bytes b) h = refl
simple_holds_none s.ChainId (v.bytes b) h = refl
simple_holds_none s.Address (v.bytes b) h = refl
simple_holds_none u x h = absurd (true≢false (sym h))

tickets_made : IsMade HasNoTicket Anything
tickets_made = record {
  simple = simple_holds_none;
  none = λ a. refl;
  some = λ a x h. h;
  left = λ a b x h. h;
  right = λ a b x h. h;
  both = λ a b x y h i. nothing (tickets x) (tickets y) h i;
  list = λ a xs h. no_tickets xs h;
  set = λ a xs h i. refl;
  table = λ a b es h i. no_entry_tickets es h;
  big_table = λ a b es h i. no_entry_tickets es h;
  lambda = λ a b at recursive ts g. refl;
  contract = λ a at b h g. refl;
}

all_anything : (ps : List Pending) → AllTried Anything ps
all_anything [] = tt
all_anything (p ∷ ps) = (tt, all_anything ps)

pub literals_hold_no_ticket : LiteralsHoldNoTicket
literals_hold_no_ticket a at t x ps same = read_has HasNoTicket Anything tickets_made a at t x ps same (all_anything ps)
