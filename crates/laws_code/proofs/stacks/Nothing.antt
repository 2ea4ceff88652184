-- Types whose values hold no tickets.
use Rattle.std.proofs.Common.{◌≡◌, true, [], ◌++◌, refl, ap, ◌∙◌, pos}
use Rattle.std.proofs.lemmas.Bool.{and_parts, and_from}
use Rattle.rules_data.specs.declared.types.Simple.{Simple}
use Rattle.rules_data.specs.declared.types.Simple.TheVariants as s
use Rattle.rules_data.specs.types.Kind.{Kind}
use Rattle.rules_data.specs.types.Kind as k
use Rattle.rules_data.specs.types.Attributes.{comparable, pushable, packable, duplicable}
use Rattle.rules_data.specs.values.Val.{Val, Vals, no_val, more_vals, Pairs, no_pair, more_pairs}
use Rattle.rules_data.specs.values.Val as v
use Rattle.rules_data.specs.values.Tickets.{Identity, tickets, all_tickets, pair_tickets}
use Rattle.rules_data.specs.values.Forms.{has_simple_form, AllHave, AllEntriesHave}
use Rattle.rules_code.specs.steps.Changes.{amount_in, amount_among}
use Rattle.rules_code.specs.typing.Fits.{Known, Fits}

-- ---- types whose values can be copied

pub comparable_duplicable : (a : Kind) → comparable a ≡ true → duplicable a ≡ true
comparable_duplicable (k.simple x) h = refl
comparable_duplicable (k.option a) h = comparable_duplicable a h
comparable_duplicable (k.or a b) h = and_from _ _ (comparable_duplicable a (and_parts _ _ h).0)
    (comparable_duplicable b (and_parts _ _ h).1)
comparable_duplicable (k.pair a b) h = and_from _ _ (comparable_duplicable a (and_parts _ _ h).0)
    (comparable_duplicable b (and_parts _ _ h).1)
comparable_duplicable _ h = cc

pub pushable_duplicable : (a : Kind) → pushable a ≡ true → duplicable a ≡ true
pushable_duplicable (k.simple x) h = refl
pushable_duplicable (k.option a) h = pushable_duplicable a h
pushable_duplicable (k.or a b) h = and_from _ _ (pushable_duplicable a (and_parts _ _ h).0)
    (pushable_duplicable b (and_parts _ _ h).1)
pushable_duplicable (k.pair a b) h = and_from _ _ (pushable_duplicable a (and_parts _ _ h).0)
    (pushable_duplicable b (and_parts _ _ h).1)
pushable_duplicable (k.list a) h = pushable_duplicable a h
pushable_duplicable (k.set a) h = pushable_duplicable a h
pushable_duplicable (k.map a b) h = and_from _ _ (pushable_duplicable a (and_parts _ _ h).0)
    (pushable_duplicable b (and_parts _ _ h).1)
pushable_duplicable (k.lambda a b) h = refl
pushable_duplicable _ h = cc

pub packable_duplicable : (a : Kind) → packable a ≡ true → duplicable a ≡ true
packable_duplicable (k.simple x) h = refl
packable_duplicable (k.option a) h = packable_duplicable a h
packable_duplicable (k.or a b) h = and_from _ _ (packable_duplicable a (and_parts _ _ h).0)
    (packable_duplicable b (and_parts _ _ h).1)
packable_duplicable (k.pair a b) h = and_from _ _ (packable_duplicable a (and_parts _ _ h).0)
    (packable_duplicable b (and_parts _ _ h).1)
packable_duplicable (k.list a) h = packable_duplicable a h
packable_duplicable (k.set a) h = packable_duplicable a h
packable_duplicable (k.map a b) h = and_from _ _ (packable_duplicable a (and_parts _ _ h).0)
    (packable_duplicable b (and_parts _ _ h).1)
packable_duplicable (k.lambda a b) h = refl
packable_duplicable (k.contract a) h = refl
packable_duplicable _ h = cc

-- ---- they hold no tickets

pub nothing_and : (x y : Val) → tickets x ≡ [] → tickets y ≡ [] → tickets (v.both x y) ≡ []
nothing_and x y f g = ap (λ ts. ts ++ tickets y) f ∙ g

pub all_nothing : (P : Val → Type 0) → ((x : Val) → P x → tickets x ≡ []) → (xs : Vals) → AllHave P xs → all_tickets xs ≡ []
all_nothing P f no_val h = refl
all_nothing P f (more_vals x xs) h = ap (λ ts. ts ++ all_tickets xs) (f x h.0) ∙ all_nothing P f xs h.1

pub pairs_nothing : (P Q : Val → Type 0) → ((x : Val) → Q x → tickets x ≡ []) → (es : Pairs) → AllEntriesHave P Q es →
    pair_tickets es ≡ []
pairs_nothing P Q f no_pair h = refl
pairs_nothing P Q f (more_pairs x y es) h = ap (λ ts. ts ++ pair_tickets es) (f y h.1) ∙ pairs_nothing P Q f es h.2

pub simple_none : (u : Simple) (x : Val) → has_simple_form u x ≡ true → tickets x ≡ []
simple_none s.Unit v.unit h = refl
simple_none s.Bool (v.truth b) h = refl
simple_none s.Int (v.number n) h = refl
simple_none s.Timestamp (v.number n) h = refl
simple_none s.Nat (v.number n) h = refl
simple_none s.Mutez (v.number n) h = refl
simple_none s.String (v.text b) h = refl
simple_none s.Bytes (v.bytes b) h = refl
simple_none s.KeyHash (v.bytes b) h = refl
simple_none s.Key (v.bytes b) h = refl
simple_none s.Signature (v.bytes b) h = refl
simple_none s.ChainId (v.bytes b) h = refl
simple_none s.Address (v.bytes b) h = refl
simple_none u x h = absurd cc

pub nothing_in : (w : Known) (a : Kind) (x : Val) → duplicable a ≡ true → Fits w a x → tickets x ≡ []
nothing_in w (k.simple z) x d h = simple_none z x h
nothing_in w k.operation (v.operation n) d h = refl
nothing_in w (k.option a) v.nothing d h = refl
nothing_in w (k.option a) (v.some x) d h = nothing_in w a x d h
nothing_in w (k.or a b) (v.left x) d h = nothing_in w a x (and_parts _ _ d).0 h
nothing_in w (k.or a b) (v.right x) d h = nothing_in w b x (and_parts _ _ d).1 h
nothing_in w (k.pair a b) (v.both x y) d h = nothing_and x y (nothing_in w a x (and_parts _ _ d).0 h.0)
    (nothing_in w b y (and_parts _ _ d).1 h.1)
nothing_in w (k.list a) (v.list xs) d h = all_nothing (Fits w a) (λ x g. nothing_in w a x d g) xs h
nothing_in w (k.set a) (v.set xs) d h = refl
nothing_in w (k.map a b) (v.table es) d h = pairs_nothing (Fits w a) (Fits w b)
    (λ x g. nothing_in w b x (and_parts _ _ d).1 g) es h.0
nothing_in w (k.big_map a b) (v.big_table es) d h = pairs_nothing (Fits w a) (Fits w b)
    (λ x g. nothing_in w b x (and_parts _ _ d).1 g) es h.0
nothing_in w (k.lambda a b) (v.lambda t r) d h = refl
nothing_in w (k.contract a) (v.bytes b) d h = refl
nothing_in w (k.ticket a) x d h = absurd cc
nothing_in w _ _ d h = absurd h

pub no_amount : (id : Identity) (w : Known) (a : Kind) (x : Val) → duplicable a ≡ true → Fits w a x → amount_in id x ≡ pos 0
no_amount id w a x d h = ap (amount_among id) (nothing_in w a x d h)

pub no_amount_compared : (id : Identity) (w : Known) (a : Kind) (x : Val) → comparable a ≡ true → Fits w a x →
    amount_in id x ≡ pos 0
no_amount_compared id w a x c h = no_amount id w a x (comparable_duplicable a c) h
