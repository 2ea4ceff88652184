-- What was minted and burnt of tickets, one after the other.
use Rattle.std.proofs.Common.{◌≡◌, ℤ, pos, ◌+ℤ◌, ◌<ℤ◌, ◌≤ℤ◌, List, [], ◌∷◌, Bool, true, false, None, Some, refl, sym, ap, ◌∙◌, subst, arith}
use Rattle.std.specs.Prelude.{if◌then◌else◌, int_lt, Ok, Err}
use Rattle.std.proofs.lemmas.Int.{ints}
use Rattle.std.specs.declared.option.Option.{Option}
use Rattle.std.specs.List.{AllByRecursion, flat_map}
use Rattle.laws_code.proofs.stacks.ForCallers.{alike_itself}
use Rattle.laws_world.proofs.accounts.ForCallers.{minted_append}
use Rattle.rules_code.specs.steps.Changes.{Change, minted, burnt, is_alike, amount_of, minted_in, burnt_in}
use Rattle.rules_data.specs.values.Tickets.{Identity, Held}
use Rattle.mich_term.specs.TicketView.{identity, held}
use Rattle.mich_term.specs.declared.ticket.Ticket.{Ticket}
use Rattle.mich_term.specs.declared.ticket.TicketId.{TicketId}
use Rattle.mich_tickets.specs.Answers.{IsMint}
use Rattle.mich_tickets.specs.Books.{Books, State}
use Rattle.mich_tickets.specs.Effects.{Adds}
use Rattle.mich_tickets.specs.Most.{most}
use Rattle.mich_tickets.specs.Sums.{minted_of, burnt_of}
use Rattle.mich_tickets.specs.declared.errors.MintError.TheVariants as mint
use Rattle.mich_tickets.specs.declared.totals.Totals.{Totals}
use Rattle.mich_world.specs.Restoring.{AreTotals, told_of}

abbrev Row : Type 0
Row = TicketId × Totals

-- so much of a ticket
abbrev pub so_much : TicketId → ℤ → Held
so_much id n = held (record { id = id; amount = n })

-- ---- a mint

pub mint_made : (id : TicketId) (n : ℤ) (old new : State) (o : Option Ticket) → pos 1 ≤ℤ n → IsMint id n old new (Ok o)
    → Adds (minted (so_much id n) ∷ []) old.books.present new.books.present
mint_made id n old new None p a = let e : n ≡ pos 0 = a.0 in absurd (omega (arith, ints, e, p))
mint_made id n old new (Some t) p a =
    subst (λ (x : Ticket). Adds (minted (held x) ∷ []) old.books.present new.books.present) a.2 a.3.books

pub mint_fits : (id : TicketId) (n : ℤ) (old new : State) → (minted_of old.books.present (identity id) +ℤ n) ≤ℤ most
    → IsMint id n old new (Err mint.IntegerLimit) → ⊥
mint_fits id n old new f a =
    let e : most <ℤ (minted_of old.books.present (identity id) +ℤ n) = a.0 in over most (minted_of old.books.present (identity id) +ℤ n) e f
  where
    over : (l x : ℤ) → l <ℤ x → x ≤ℤ l → ⊥
    over l x e f = omega (arith, ints, e, f)

-- ---- what is told of a ticket

self_of : (id : TicketId) (n : ℤ) → amount_of (identity id) (so_much id n) ≡ n
self_of id n = ap (λ (b : Bool). if b then n else pos 0) (alike_itself (identity id))

abbrev burns : TicketId → ℤ → Bool → List Change
burns id n b = if b then burnt (so_much id n) ∷ [] else []

minted_burns : (j : Identity) (id : TicketId) (n : ℤ) (b : Bool) → minted_in j (burns id n b) ≡ pos 0
minted_burns j id n true = refl
minted_burns j id n false = refl

alone : (x y : ℤ) → y ≡ pos 0 → x +ℤ y ≡ x
alone x y e = omega (arith, ints, e)

pub minted_told : (j : Identity) (t : Row) → minted_in j (told_of t) ≡ amount_of j (so_much t.0 t.1.minted)
minted_told j t = alone (amount_of j (so_much t.0 t.1.minted)) (minted_in j (burns t.0 t.1.burnt (int_lt (pos 0) t.1.burnt)))
    (minted_burns j t.0 t.1.burnt (int_lt (pos 0) t.1.burnt))

of_within : (b : Bool) (m n : ℤ) → pos 0 ≤ℤ m → n ≤ℤ m → ((if b then n else pos 0) +ℤ pos 0) ≤ℤ (if b then m else pos 0)
of_within true m n h g = omega (arith, ints)
of_within false m n h g = omega (arith, ints)

of_least : (b : Bool) (m : ℤ) → pos 0 ≤ℤ m → pos 0 ≤ℤ (if b then m else pos 0)
of_least true m h = h
of_least false m h = omega (arith, ints)

minted_least : (t : Totals) → AreTotals t → pos 0 ≤ℤ t.minted
minted_least t a = let m = a.minted in omega (arith, ints)

told_amount : (j : Identity) (t : Row) → AreTotals t.1 → pos 0 ≤ℤ minted_in j (told_of t)
told_amount j t a =
    subst (λ (z : ℤ). pos 0 ≤ℤ z) (sym (minted_told j t)) (of_least (is_alike j (identity t.0)) t.1.minted (minted_least t.1 a))

burnt_burns : (j : Identity) (t : Row) (b : Bool) → AreTotals t.1 → burnt_in j (burns t.0 t.1.burnt b) ≤ℤ amount_of j (so_much t.0 t.1.minted)
burnt_burns j t true a = of_within (is_alike j (identity t.0)) t.1.minted t.1.burnt (minted_least t.1 a) a.within
burnt_burns j t false a = of_least (is_alike j (identity t.0)) t.1.minted (minted_least t.1 a)

-- no more is burnt than is minted
pub told_within : (j : Identity) (t : Row) → AreTotals t.1 → burnt_in j (told_of t) ≤ℤ minted_in j (told_of t)
told_within j t a =
    subst (λ (z : ℤ). burnt_in j (told_of t) ≤ℤ z) (sym (minted_told j t)) (burnt_burns j t (int_lt (pos 0) t.1.burnt) a)

sum_least : (a b c : ℤ) → c ≡ a +ℤ b → pos 0 ≤ℤ a → pos 0 ≤ℤ b → pos 0 ≤ℤ c
sum_least a b c e h g = omega (arith, ints, e, h, g)

pub all_least : (j : Identity) (ts : List Row) → AllByRecursion (λ (t : Row). AreTotals t.1) ts → pos 0 ≤ℤ minted_in j (flat_map told_of ts)
all_least j [] h = omega (arith, ints)
all_least j (t ∷ ts) h =
    sum_least (minted_in j (told_of t)) (minted_in j (flat_map told_of ts)) (minted_in j (flat_map told_of (t ∷ ts)))
    (minted_append j (told_of t) (flat_map told_of ts)) (told_amount j t h.0) (all_least j ts h.1)

-- ---- one after the other

fits_first : (x w m n r l : ℤ) → w ≡ m +ℤ r → m ≡ n → pos 0 ≤ℤ r → (x +ℤ w) ≤ℤ l → (x +ℤ n) ≤ℤ l
fits_first x w m n r l e f p h = omega (arith, ints, e, f, p, h)

fits_next : (x y w m r l : ℤ) → w ≡ m +ℤ r → y ≡ x +ℤ m → (x +ℤ w) ≤ℤ l → (y +ℤ r) ≤ℤ l
fits_next x y w m r l e f h = omega (arith, ints, e, f, h)

abbrev pub Fit : List Row → Books → Type 0
Fit ts b = (j : Identity) → (minted_of b j +ℤ minted_in j (flat_map told_of ts)) ≤ℤ most

abbrev pub AreWithin : Books → Type 0
AreWithin b = (j : Identity) → burnt_of b j ≤ℤ minted_of b j

pub total_fits : (t : Row) (ts : List Row) (b : Books) → AllByRecursion (λ (x : Row). AreTotals x.1) (t ∷ ts) → Fit (t ∷ ts) b
    → (minted_of b (identity t.0) +ℤ t.1.minted) ≤ℤ most
total_fits t ts b h f =
    let j = identity t.0 in
    fits_first (minted_of b j) (minted_in j (flat_map told_of (t ∷ ts))) (minted_in j (told_of t)) t.1.minted (minted_in j (flat_map told_of ts)) most
    (minted_append j (told_of t) (flat_map told_of ts)) (minted_told j t ∙ self_of t.0 t.1.minted) (all_least j ts h.1) (f j)

pub next_fit : (t : Row) (ts : List Row) (a b : Books) → Fit (t ∷ ts) a → Adds (told_of t) a b → Fit ts b
next_fit t ts a b f p j =
    fits_next (minted_of a j) (minted_of b j) (minted_in j (flat_map told_of (t ∷ ts))) (minted_in j (told_of t)) (minted_in j (flat_map told_of ts)) most
    (minted_append j (told_of t) (flat_map told_of ts)) (p.minted j) (f j)

within_by : (x y m n v w : ℤ) → x ≤ℤ y → m ≤ℤ n → v ≡ x +ℤ m → w ≡ y +ℤ n → v ≤ℤ w
within_by x y m n v w h g e f = omega (arith, ints, h, g, e, f)

pub next_within : (t : Row) (a b : Books) → AreTotals t.1 → AreWithin a → Adds (told_of t) a b → AreWithin b
next_within t a b h w p j =
    within_by (burnt_of a j) (minted_of a j) (burnt_in j (told_of t)) (minted_in j (told_of t)) (burnt_of b j) (minted_of b j)
    (w j) (told_within j t h) (p.burnt j) (p.minted j)

-- ---- a total

burn_fits : (x y v w n m k : ℤ) → x ≤ℤ y → n ≤ℤ m → v ≡ x +ℤ pos 0 → w ≡ y +ℤ (k +ℤ pos 0) → k ≡ m → (v +ℤ n) ≤ℤ w
burn_fits x y v w n m k h g e f q = omega (arith, ints, h, g, e, f, q)

-- it may be burnt once it was minted
pub burn_within : (id : TicketId) (t : Totals) (a b : Books) → AreTotals t → burnt_of a (identity id) ≤ℤ minted_of a (identity id)
    → Adds (minted (so_much id t.minted) ∷ []) a b → (burnt_of b (identity id) +ℤ t.burnt) ≤ℤ minted_of b (identity id)
burn_within id t a b h w p =
    let j = identity id in
    burn_fits (burnt_of a j) (minted_of a j) (burnt_of b j) (minted_of b j) t.burnt t.minted (amount_of j (so_much id t.minted))
    w h.within (p.burnt j) (p.minted j) (self_of id t.minted)

pub none_told : (id : TicketId) (t : Totals) → t.burnt ≡ pos 0 → told_of (id, t) ≡ minted (so_much id t.minted) ∷ []
none_told id t e = ap (λ (z : ℤ). minted (so_much id t.minted) ∷ burns id t.burnt (int_lt (pos 0) z)) e

pub some_told : (id : TicketId) (t : Totals) → int_lt (pos 0) t.burnt ≡ true → told_of (id, t) ≡ minted (so_much id t.minted) ∷ burnt (so_much id t.burnt) ∷ []
some_told id t e = ap (λ (b : Bool). minted (so_much id t.minted) ∷ burns id t.burnt b) e
