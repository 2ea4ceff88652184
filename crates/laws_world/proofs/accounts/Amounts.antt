-- Amounts of tickets: sums, and that none is below nothing.
use Rattle.std.proofs.Common.{◌≡◌, List, [], ◌∷◌, ◌++◌, Bool, true, false, refl, ℤ, pos, ◌+ℤ◌, ◌<ℤ◌, ◌≤ℤ◌, arith}
use Rattle.std.specs.Prelude.{◌^◌, ◌-◌, int_le, if◌then◌else◌}
use Rattle.std.specs.List.{All}
use Rattle.std.proofs.lemmas.Bool.{and_parts}
use Rattle.std.proofs.lemmas.Int.{ints}
use Rattle.std.proofs.lemmas.List.Elements.{All-nil, All-cons, All-head, All-tail, All-append}
use Rattle.rules_data.specs.types.Kind.{Kind}
use Rattle.rules_data.specs.values.Val.{Val}
use Rattle.rules_data.specs.values.Val as v
use Rattle.rules_data.specs.values.Tickets.{Identity, Held, tickets}
use Rattle.rules_data.specs.values.Forms.{is_ticket_amount}
use Rattle.rules_code.specs.typing.Fits.{Known, Fits}
use Rattle.rules_code.specs.steps.Changes.{Change, minted, burnt, identity_of, is_alike, amount_of, amount_among, amount_in, minted_in, burnt_in}
use Rattle.rules_world.specs.world.Forms.{IsTicket, IsChange}
use Rattle.laws_code.proofs.stacks.ForCallers.{tickets_good}

-- ---- sums

add_in : (a b c d : ℤ) → b ≡ c +ℤ d → a +ℤ b ≡ a +ℤ c +ℤ d
add_in a b c d h = omega (arith, ints, h)

none_first : (b : ℤ) → b ≡ pos 0 +ℤ b
none_first b = omega (arith, ints)

pub among_append : (id : Identity) (ts us : List Held) → amount_among id (ts ++ us) ≡ amount_among id ts +ℤ amount_among id us
among_append id [] us = none_first (amount_among id us)
among_append id (t ∷ ts) us = add_in (amount_of id t) (amount_among id (ts ++ us)) (amount_among id ts) (amount_among id us)
    (among_append id ts us)

pub in_both : (id : Identity) (x y : Val) → amount_in id (v.both x y) ≡ amount_in id x +ℤ amount_in id y
in_both id x y = among_append id (tickets x) (tickets y)

pub minted_append : (id : Identity) (cs ds : List Change) → minted_in id (cs ++ ds) ≡ minted_in id cs +ℤ minted_in id ds
minted_append id [] ds = none_first (minted_in id ds)
minted_append id (minted t ∷ cs) ds = add_in (amount_of id t) (minted_in id (cs ++ ds)) (minted_in id cs) (minted_in id ds)
    (minted_append id cs ds)
minted_append id (burnt t ∷ cs) ds = minted_append id cs ds

pub burnt_append : (id : Identity) (cs ds : List Change) → burnt_in id (cs ++ ds) ≡ burnt_in id cs +ℤ burnt_in id ds
burnt_append id [] ds = none_first (burnt_in id ds)
burnt_append id (minted t ∷ cs) ds = burnt_append id cs ds
burnt_append id (burnt t ∷ cs) ds = add_in (amount_of id t) (burnt_in id (cs ++ ds)) (burnt_in id cs) (burnt_in id ds)
    (burnt_append id cs ds)

-- ---- tickets are positive

pub ticket_positive : (t : Held) → is_ticket_amount t.amount ≡ true → pos 0 <ℤ t.amount
ticket_positive t h =
    let least : int_le (pos 1) t.amount ≡ true = (and_parts (int_le (pos 1) t.amount)
    (int_le t.amount (pos (2 ^ 127 - 1))) h).0 in
    omega (arith, ints)

of_positive : (id : Identity) (t : Held) → IsTicket t → pos 0 ≤ℤ amount_of id t
of_positive id t h = by (is_alike id (identity_of t))
  where
    by : (b : Bool) → pos 0 ≤ℤ (if b then t.amount else pos 0)
    by true = let p : pos 0 <ℤ t.amount = ticket_positive t h.1 in omega (arith, ints)
    by false = omega (arith, ints)

sum_positive : (a b : ℤ) → pos 0 ≤ℤ a → pos 0 ≤ℤ b → pos 0 ≤ℤ (a +ℤ b)
sum_positive a b h g = omega (arith, ints)

pub among_positive : (id : Identity) (ts : List Held) → All IsTicket ts → pos 0 ≤ℤ amount_among id ts
among_positive id [] h = omega (arith, ints)
among_positive id (t ∷ ts) h = sum_positive (amount_of id t) (amount_among id ts) (of_positive id t (All-head IsTicket t ts h))
    (among_positive id ts (All-tail IsTicket t ts h))

pub burnt_positive : (id : Identity) (cs : List Change) → All IsChange cs → pos 0 ≤ℤ burnt_in id cs
burnt_positive id [] h = omega (arith, ints)
burnt_positive id (minted t ∷ cs) h = burnt_positive id cs (All-tail IsChange (minted t) cs h)
burnt_positive id (burnt t ∷ cs) h = sum_positive (amount_of id t) (burnt_in id cs)
    (of_positive id t (All-head IsChange (burnt t) cs h)) (burnt_positive id cs (All-tail IsChange (burnt t) cs h))

pub minted_positive : (id : Identity) (cs : List Change) → All IsChange cs → pos 0 ≤ℤ minted_in id cs
minted_positive id [] h = omega (arith, ints)
minted_positive id (burnt t ∷ cs) h = minted_positive id cs (All-tail IsChange (burnt t) cs h)
minted_positive id (minted t ∷ cs) h = sum_positive (amount_of id t) (minted_in id cs)
    (of_positive id t ((All-head IsChange (minted t) cs h).0, (All-head IsChange (minted t) cs h).1)) (minted_positive id cs (All-tail IsChange (minted t) cs h))

-- ---- the tickets in a value that fits

pub in_positive : (id : Identity) (w : Known) (a : Kind) (x : Val) → Fits w a x → pos 0 ≤ℤ amount_in id x
in_positive id w a x h = among_positive id (tickets x) (tickets_good w a x h)
