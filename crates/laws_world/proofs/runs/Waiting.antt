-- Operations that wait: their tickets, and what is left of them.
use Rattle.std.proofs.Common.{◌≡◌, ℕ, List, [], ◌∷◌, ◌++◌, Bool, true, false, refl, ap, ◌∙◌, ℤ, pos, ◌+ℤ◌, ◌≤ℤ◌, arith}
use Rattle.std.specs.List.{All}
use Rattle.std.proofs.lemmas.Bool.{and_parts}
use Rattle.std.proofs.lemmas.Int.{ints}
use Rattle.std.proofs.lemmas.List.Elements.{All-cons, All-head, All-tail}
use Rattle.rules_data.specs.gas.Prices.{Listed}
use Rattle.rules_data.specs.declared.gas.Kind.{Kind as Priced}
use Rattle.rules_data.specs.types.Kind.{Kind}
use Rattle.rules_data.specs.types.Kind as k
use Rattle.rules_data.specs.types.Attributes.{pushable}
use Rattle.rules_data.specs.values.Val.{Val, Vals, no_val, more_vals, Pairs, no_pair, more_pairs}
use Rattle.rules_data.specs.values.Val as v
use Rattle.rules_data.specs.values.Tickets.{Identity, tickets, all_tickets, pair_tickets}
use Rattle.rules_data.specs.values.Forms.{AllHave, AllEntriesHave}
use Rattle.rules_data.specs.forms.Spelling.{is_place}
use Rattle.rules_code.specs.typing.Fits.{Known, Fits}
use Rattle.rules_code.specs.steps.Changes.{amount_among}
use Rattle.rules_code.specs.evaluation.Operations.{Operation, transfer, origination, event, Issued, operation_tickets}
use Rattle.rules_world.specs.world.World.{World}
use Rattle.rules_world.specs.world.Outcomes.{Setting, Waiting, ordered, issued, Outcome, charged_by, charged}
use Rattle.rules_world.specs.world.Runs.{waiting_of}
use Rattle.rules_world.specs.world.RunLaws.{amount_returned}
use Rattle.rules_world.specs.world.Forms.{IsTicket}
use Rattle.rules_world.specs.world.Good.{known_with, IsGoodOperation, IsGoodWaiting, amount_waiting}
use Rattle.laws_world.specs.runs.Going.{orders, KeepsGoing}
use Rattle.laws_world.proofs.accounts.ForCallers.{among_positive}
use Rattle.laws_code.proofs.stacks.ForCallers.{simple_none, tickets_good}

-- ---- their tickets

pub operation_good : (w : World) (op : Operation) → IsGoodOperation w op → All IsTicket (operation_tickets op)
operation_good w (transfer argument amount destination) h = tickets_good (known_with w []) h.0 argument h.2
operation_good w (origination delegate amount t storage hash) h = tickets_good (known_with w []) h.0.0.storage storage h.0.3
operation_good w (event tag a x) h = tickets_good (known_with w []) a x h.1

sum_positive : (a b : ℤ) → pos 0 ≤ℤ a → pos 0 ≤ℤ b → pos 0 ≤ℤ (a +ℤ b)
sum_positive a b h g = omega (arith, ints)

pub waiting_positive : (id : Identity) (w : World) (waiting : List Waiting) → All (IsGoodWaiting w) waiting →
    pos 0 ≤ℤ amount_waiting id waiting
waiting_positive id w [] h = omega (arith, ints)
waiting_positive id w (ordered action ∷ waiting) h = waiting_positive id w waiting
    (All-tail (IsGoodWaiting w) (ordered action) waiting h)
waiting_positive id w (issued sender op ∷ waiting) h =
    sum_positive (amount_among id (operation_tickets op)) (amount_waiting id waiting)
    (among_positive id (operation_tickets op) (operation_good w op (All-head (IsGoodWaiting w) (issued sender op) waiting h).1))
    (waiting_positive id w waiting (All-tail (IsGoodWaiting w) (issued sender op) waiting h))

none_first : (b : ℤ) → b ≡ pos 0 +ℤ b
none_first b = omega (arith, ints)

add_in : (a b c d : ℤ) → b ≡ c +ℤ d → a +ℤ b ≡ a +ℤ c +ℤ d
add_in a b c d h = omega (arith, ints, h)

pub emitted_amount : (id : Identity) (sender : List ℕ) (is : List Issued) (waiting : List Waiting) →
    amount_waiting id (waiting_of sender is ++ waiting) ≡ amount_returned id is +ℤ amount_waiting id waiting
emitted_amount id sender [] waiting = none_first (amount_waiting id waiting)
emitted_amount id sender (i ∷ is) waiting =
    add_in (amount_among id (operation_tickets i.operation)) (amount_waiting id (waiting_of sender is ++ waiting))
    (amount_returned id is) (amount_waiting id waiting) (emitted_amount id sender is waiting)

pub emitted_good : (w : World) (sender : List ℕ) (is : List Issued) (waiting : List Waiting) → is_place sender ≡ true →
    All (λ i. IsGoodOperation w i.operation) is → All (IsGoodWaiting w) waiting →
    All (IsGoodWaiting w) (waiting_of sender is ++ waiting)
emitted_good w sender [] waiting p h g = g
emitted_good w sender (i ∷ is) waiting p h g =
    All-cons (IsGoodWaiting w) (issued sender i.operation) (waiting_of sender is ++ waiting)
    (p, All-head (λ i. IsGoodOperation w i.operation) i is h)
    (emitted_good w sender is waiting p (All-tail (λ i. IsGoodOperation w i.operation) i is h) g)

pub emitted_orders : (sender : List ℕ) (is : List Issued) (waiting : List Waiting) →
    orders (waiting_of sender is ++ waiting) ≡ orders waiting
emitted_orders sender [] waiting = refl
emitted_orders sender (i ∷ is) waiting = emitted_orders sender is waiting

-- ---- pushable values hold none

pushed_vals : (P : Val → Type 0) → ((x : Val) → P x → tickets x ≡ []) → (xs : Vals) → AllHave P xs → all_tickets xs ≡ []
pushed_vals P f no_val h = refl
pushed_vals P f (more_vals x xs) h = ap (λ ts. ts ++ all_tickets xs) (f x h.0) ∙ pushed_vals P f xs h.1

pushed_pairs : (P Q : Val → Type 0) → ((x : Val) → Q x → tickets x ≡ []) → (es : Pairs) → AllEntriesHave P Q es →
    pair_tickets es ≡ []
pushed_pairs P Q f no_pair h = refl
pushed_pairs P Q f (more_pairs x y es) h = ap (λ ts. ts ++ pair_tickets es) (f y h.1) ∙ pushed_pairs P Q f es h.2

pub pushed_none : (w : Known) (a : Kind) (x : Val) → pushable a ≡ true → Fits w a x → tickets x ≡ []
pushed_none w (k.simple z) x p h = simple_none z x h
pushed_none w (k.option a) v.nothing p h = refl
pushed_none w (k.option a) (v.some x) p h = pushed_none w a x p h
pushed_none w (k.or a b) (v.left x) p h = pushed_none w a x (and_parts (pushable a) (pushable b) p).0 h
pushed_none w (k.or a b) (v.right x) p h = pushed_none w b x (and_parts (pushable a) (pushable b) p).1 h
pushed_none w (k.pair a b) (v.both x y) p h =
    ap (λ ts. ts ++ tickets y) (pushed_none w a x (and_parts (pushable a) (pushable b) p).0 h.0)
    ∙ pushed_none w b y (and_parts (pushable a) (pushable b) p).1 h.1
pushed_none w (k.list a) (v.list xs) p h = pushed_vals (Fits w a) (λ x g. pushed_none w a x p g) xs h
pushed_none w (k.set a) (v.set xs) p h = refl
pushed_none w (k.map a b) (v.table es) p h = pushed_pairs (Fits w a) (Fits w b)
    (λ x g. pushed_none w b x (and_parts (pushable a) (pushable b) p).1 g) es h.0
pushed_none w (k.lambda a b) (v.lambda t r) p h = refl
pushed_none w (k.big_map a b) x p h = absurd cc
pushed_none w (k.contract a) x p h = absurd cc
pushed_none w k.operation x p h = absurd cc
pushed_none w (k.ticket a) x p h = absurd cc
pushed_none w _ _ p h = absurd h

-- ---- gas

keeps_charged_by : (start : World) (s : Setting) (contents : ℕ) (waiting : List Waiting) (b : Bool) (left : ℕ)
    (next : ℕ → Outcome) → ((left : ℕ) → KeepsGoing start s contents waiting (next left)) →
    KeepsGoing start s contents waiting (charged_by b left next)
keeps_charged_by start s contents waiting true left next h = tt
keeps_charged_by start s contents waiting false left next h = h left

pub keeps_charged : (start : World) (s : Setting) (contents : ℕ) (waiting : List Waiting) (prices : Listed) (kind : Priced)
    (gas : ℕ) (next : ℕ → Outcome) → ((left : ℕ) → KeepsGoing start s contents waiting (next left)) →
    KeepsGoing start s contents waiting (charged prices kind gas next)
keeps_charged start s contents waiting prices kind gas next h = keeps_charged_by start s contents waiting _ _ next h
