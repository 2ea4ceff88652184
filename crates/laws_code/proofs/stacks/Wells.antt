-- The tickets in values that fit have their form.
use Rattle.std.proofs.Common.{ℕ, zero, suc, List, [], ◌∷◌}
use Rattle.std.specs.Prelude.{take}
use Rattle.std.specs.List.{All, flat_map}
use Rattle.std.proofs.lemmas.List.Elements.{All-nil, All-cons, All-append}
use Rattle.rules_data.specs.types.Kind.{Kind}
use Rattle.rules_data.specs.types.Kind as k
use Rattle.rules_data.specs.values.Val.{Val, Vals, no_val, more_vals, Pairs, no_pair, more_pairs}
use Rattle.rules_data.specs.values.Val as v
use Rattle.rules_data.specs.values.Tickets.{tickets, all_tickets, pair_tickets}
use Rattle.rules_data.specs.values.Forms.{AllHave, AllEntriesHave}
use Rattle.rules_code.specs.typing.Fits.{Known, Fits, AllFit}
use Rattle.rules_world.specs.world.Forms.{IsTicket}
use Rattle.laws_code.proofs.stacks.Nothing.{simple_none}

all_good : (P : Val → Type 0) → ((x : Val) → P x → All IsTicket (tickets x)) → (xs : Vals) → AllHave P xs →
    All IsTicket (all_tickets xs)
all_good P f no_val h = All-nil IsTicket
all_good P f (more_vals x xs) h = All-append IsTicket (tickets x) (all_tickets xs) (f x h.0) (all_good P f xs h.1)

pairs_good : (P Q : Val → Type 0) → ((x : Val) → Q x → All IsTicket (tickets x)) → (es : Pairs) → AllEntriesHave P Q es →
    All IsTicket (pair_tickets es)
pairs_good P Q f no_pair h = All-nil IsTicket
pairs_good P Q f (more_pairs x y es) h = All-append IsTicket (tickets y) (pair_tickets es) (f y h.1) (pairs_good P Q f es h.2)

pub tickets_good : (w : Known) (a : Kind) (x : Val) → Fits w a x → All IsTicket (tickets x)
tickets_good w (k.simple z) x h = rw (simple_none z x h) (All-nil IsTicket)
tickets_good w k.operation (v.operation n) h = All-nil IsTicket
tickets_good w (k.option a) v.nothing h = All-nil IsTicket
tickets_good w (k.option a) (v.some x) h = tickets_good w a x h
tickets_good w (k.or a b) (v.left x) h = tickets_good w a x h
tickets_good w (k.or a b) (v.right x) h = tickets_good w b x h
tickets_good w (k.pair a b) (v.both x y) h = All-append IsTicket (tickets x) (tickets y) (tickets_good w a x h.0)
    (tickets_good w b y h.1)
tickets_good w (k.list a) (v.list xs) h = all_good (Fits w a) (λ x g. tickets_good w a x g) xs h
tickets_good w (k.set a) (v.set xs) h = All-nil IsTicket
tickets_good w (k.map a b) (v.table es) h = pairs_good (Fits w a) (Fits w b) (λ x g. tickets_good w b x g) es h.0
tickets_good w (k.big_map a b) (v.big_table es) h = pairs_good (Fits w a) (Fits w b) (λ x g. tickets_good w b x g) es h.0
tickets_good w (k.lambda a b) (v.lambda t r) h = All-nil IsTicket
tickets_good w (k.contract a) (v.bytes b) h = All-nil IsTicket
tickets_good w (k.ticket a) (v.ticket issuer kind content amount) h = All-cons IsTicket _ [] (h.3, h.2) (All-nil IsTicket)
tickets_good w _ _ h = absurd h

-- those of a stack, of so many of its values, and of one value
pub stack_good : (w : Known) (A : List Kind) (V : List Val) → AllFit w A V → All IsTicket (flat_map tickets V)
stack_good w [] [] h = All-nil IsTicket
stack_good w (a ∷ A) (x ∷ V) h = All-append IsTicket (tickets x) (flat_map tickets V) (tickets_good w a x h.0)
    (stack_good w A V h.1)
stack_good w [] (x ∷ V) h = absurd h
stack_good w (a ∷ A) [] h = absurd h

pub taken_good : (w : Known) (n : ℕ) (A : List Kind) (V : List Val) → AllFit w A V → All IsTicket (flat_map tickets (take n V))
taken_good w zero A V h = All-nil IsTicket
taken_good w (suc n) [] [] h = All-nil IsTicket
taken_good w (suc n) (a ∷ A) (x ∷ V) h = All-append IsTicket (tickets x) (flat_map tickets (take n V)) (tickets_good w a x h.0)
    (taken_good w n A V h.1)
taken_good w (suc n) [] (x ∷ V) h = absurd h
taken_good w (suc n) (a ∷ A) [] h = absurd h

pub one_good : (w : Known) (a : Kind) (x : Val) → Fits w a x → All IsTicket (flat_map tickets (x ∷ []))
one_good w a x h = stack_good w (a ∷ []) (x ∷ []) (h, tt)
