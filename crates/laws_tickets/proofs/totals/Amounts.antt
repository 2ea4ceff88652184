-- Amounts of tickets, added up.
use Rattle.std.proofs.Common.{◌≡◌, List, [], ◌∷◌, ◌++◌, refl, sym, ap, ◌∙◌, arith}
use Rattle.std.specs.Prelude.{ℤ, pos, ◌+ℤ◌, ◌-ℤ◌}
use Rattle.std.specs.List.{flat_map}
use Rattle.std.proofs.Math.IntN.{+ℤ_assoc, +ℤ_idl, +ℤ_idr}
use Rattle.std.proofs.lemmas.Int.{ints}
use Rattle.std.proofs.lemmas.Grind.{flat_map-append}
use Rattle.rules_data.specs.values.Val.{Val, both}
use Rattle.rules_data.specs.values.Tickets.{Identity, Held, tickets}
use Rattle.rules_code.specs.steps.Changes.{Change, minted, burnt, burns, amount_of, amount_among, amount_in, minted_in, burnt_in}
use Rattle.rules_code.specs.evaluation.Operations.{Tally}
use Rattle.rules_code.specs.evaluation.Outcome.{with_changes}
use Rattle.laws_data.proofs.amounts.ForCallers.{among_append}
use Rattle.laws_tickets.specs.totals.Totals.{amount_on, amount_issued, total}

pub on_append : (id : Identity) (V W : List Val) → amount_on id (V ++ W) ≡ amount_on id V +ℤ amount_on id W
on_append id V W = ap (amount_among id) (flat_map-append tickets V W) ∙ among_append id (flat_map tickets V) (flat_map tickets W)

-- a value on others
pub on_cons : (id : Identity) (x : Val) (V : List Val) → amount_on id (x ∷ V) ≡ amount_in id x +ℤ amount_on id V
on_cons id x V = among_append id (tickets x) (flat_map tickets V)

pub minted_append : (id : Identity) (cs ds : List Change) → minted_in id (cs ++ ds) ≡ minted_in id cs +ℤ minted_in id ds
minted_append id [] ds = sym (+ℤ_idl (minted_in id ds))
minted_append id (minted t ∷ cs) ds =
    ap (λ z. amount_of id t +ℤ z) (minted_append id cs ds) ∙ sym (+ℤ_assoc (amount_of id t) (minted_in id cs) (minted_in id ds))
minted_append id (burnt t ∷ cs) ds = minted_append id cs ds

pub burnt_append : (id : Identity) (cs ds : List Change) → burnt_in id (cs ++ ds) ≡ burnt_in id cs +ℤ burnt_in id ds
burnt_append id [] ds = sym (+ℤ_idl (burnt_in id ds))
burnt_append id (minted t ∷ cs) ds = burnt_append id cs ds
burnt_append id (burnt t ∷ cs) ds =
    ap (λ z. amount_of id t +ℤ z) (burnt_append id cs ds) ∙ sym (+ℤ_assoc (amount_of id t) (burnt_in id cs) (burnt_in id ds))

pub burnt_of_burns : (id : Identity) (ts : List Held) → burnt_in id (burns ts) ≡ amount_among id ts
burnt_of_burns id [] = refl
burnt_of_burns id (t ∷ ts) = ap (λ z. amount_of id t +ℤ z) (burnt_of_burns id ts)

pub minted_of_burns : (id : Identity) (ts : List Held) → minted_in id (burns ts) ≡ pos 0
minted_of_burns id [] = refl
minted_of_burns id (t ∷ ts) = minted_of_burns id ts

-- ---- a step: what there is after it with what it burnt is what there was with what it minted

abbrev pub Balances : List Val → List Val → List Change → Type 0
Balances V W changes = (id : Identity) → amount_on id W +ℤ burnt_in id changes ≡ amount_on id V +ℤ minted_in id changes

pub same_balances : (V W : List Val) → flat_map tickets V ≡ flat_map tickets W → Balances V W []
same_balances V W e id = ap (λ ts. amount_among id ts +ℤ pos 0) (sym e)

pub equal_balances : (V W : List Val) → ((id : Identity) → amount_on id V ≡ amount_on id W) → Balances V W []
equal_balances V W e id = ap (λ z. z +ℤ pos 0) (sym (e id))

discarded_sum : (v w g b m : ℤ) → v ≡ g +ℤ w → b ≡ g → m ≡ pos 0 → w +ℤ b ≡ v +ℤ m
discarded_sum v w g b m e f h = omega (arith, ints)

-- what is discarded is burnt
pub discard_balances : (V W gone : List Val) → ((id : Identity) → amount_on id V ≡ amount_on id gone +ℤ amount_on id W) →
    Balances V W (burns (flat_map tickets gone))
discard_balances V W gone e id =
    discarded_sum _ _ (amount_on id gone) _ _ (e id) (burnt_of_burns id (flat_map tickets gone))
    (minted_of_burns id (flat_map tickets gone))

step_sum : (v w i b m c d : ℤ) → w +ℤ c ≡ v +ℤ d → w +ℤ (i +ℤ (b +ℤ c) -ℤ (m +ℤ d)) ≡ v +ℤ (i +ℤ b -ℤ m)
step_sum v w i b m c d e = omega (arith, ints)

-- a step that balances keeps the total
pub balanced_total : (id : Identity) (V W : List Val) (m : Tally) (changes : List Change) → Balances V W changes →
    total id W (with_changes m changes) ≡ total id V m
balanced_total id V W m changes e =
    ap (λ z. amount_on id W +ℤ (amount_issued id m.issued +ℤ z -ℤ minted_in id (m.changes ++ changes)))
    (burnt_append id m.changes changes)
    ∙ ap (λ z. amount_on id W +ℤ (amount_issued id m.issued +ℤ (burnt_in id m.changes +ℤ burnt_in id changes) -ℤ z))
    (minted_append id m.changes changes)
    ∙ step_sum (amount_on id V) (amount_on id W) (amount_issued id m.issued) (burnt_in id m.changes) (minted_in id m.changes)
    (burnt_in id changes) (minted_in id changes) (e id)

-- ---- orders of sums

pub swapped : (x y r : ℤ) → x +ℤ (y +ℤ r) ≡ y +ℤ (x +ℤ r)
swapped x y r = omega (arith, ints)

pub inner_second : (x y r : ℤ) → x +ℤ y +ℤ r ≡ y +ℤ (x +ℤ r)
inner_second x y r = omega (arith, ints)

-- a pair has the tickets of its parts
pub in_both : (id : Identity) (x y : Val) → amount_in id (both x y) ≡ amount_in id x +ℤ amount_in id y
in_both id x y = among_append id (tickets x) (tickets y)

pub on_one : (id : Identity) (x : Val) → amount_on id (x ∷ []) ≡ amount_in id x
on_one id x = on_cons id x [] ∙ +ℤ_idr (amount_in id x)
