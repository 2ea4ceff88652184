-- Types whose values hold no tickets, and what fits as agreement.
use Rattle.std.proofs.Common.{◌≡◌, List, true, [], ◌∷◌, refl}
use Rattle.std.specs.List.{AllByRecursion}
use Rattle.std.proofs.lemmas.Bool.{and_parts}
use Rattle.rules_data.specs.types.Kind.{Kind}
use Rattle.rules_data.specs.types.Kind as k
use Rattle.rules_data.specs.types.Attributes.{comparable, pushable, packable, duplicable}
use Rattle.rules_data.specs.values.Val.{Val}
use Rattle.rules_data.specs.values.Val as v
use Rattle.rules_data.specs.values.Tickets.{tickets}
use Rattle.rules_code.specs.typing.Fits.{Known, Fits, AllFit}
use Rattle.laws_data.specs.types.Laws.{IsWellFormed}
use Rattle.laws_tickets.specs.totals.Agreement.{Agrees, AllAgree}
use Rattle.laws_code.proofs.stacks.ForCallers.{all_have, all_nothing, comparable_duplicable, entries_have, nothing_and, packable_duplicable, pairs_nothing, pushable_duplicable, simple_none}

-- ---- types whose values can be copied hold no tickets

pub nothing_in : (a : Kind) (x : Val) → duplicable a ≡ true → Agrees a x → tickets x ≡ []
nothing_in (k.simple z) x d h = h
nothing_in k.operation (v.operation n) d h = refl
nothing_in (k.option a) v.nothing d h = refl
nothing_in (k.option a) (v.some x) d h = nothing_in a x d h
nothing_in (k.or a b) (v.left x) d h = nothing_in a x (and_parts _ _ d).0 h
nothing_in (k.or a b) (v.right x) d h = nothing_in b x (and_parts _ _ d).1 h
nothing_in (k.pair a b) (v.both x y) d h =
    nothing_and x y (nothing_in a x (and_parts _ _ d).0 h.0) (nothing_in b y (and_parts _ _ d).1 h.1)
nothing_in (k.list a) (v.list xs) d h = all_nothing (Agrees a) (λ x g. nothing_in a x d g) xs h
nothing_in (k.set a) (v.set xs) d h = refl
nothing_in (k.map a b) (v.table es) d h = pairs_nothing (Agrees a) (Agrees b) (λ x g. nothing_in b x (and_parts _ _ d).1 g) es h.1
nothing_in (k.big_map a b) (v.big_table es) d h =
    pairs_nothing (Agrees a) (Agrees b) (λ x g. nothing_in b x (and_parts _ _ d).1 g) es h.1
nothing_in (k.lambda a b) (v.lambda t r) d h = refl
nothing_in (k.contract a) (v.bytes b) d h = refl
nothing_in (k.ticket a) x d h = cc
nothing_in _ _ d h = absurd h

pub nothing_compared : (a : Kind) (x : Val) → comparable a ≡ true → Agrees a x → tickets x ≡ []
nothing_compared a x c h = nothing_in a x (comparable_duplicable a c) h

pub nothing_pushed : (a : Kind) (x : Val) → pushable a ≡ true → Agrees a x → tickets x ≡ []
nothing_pushed a x c h = nothing_in a x (pushable_duplicable a c) h

pub nothing_packed : (a : Kind) (x : Val) → packable a ≡ true → Agrees a x → tickets x ≡ []
nothing_packed a x c h = nothing_in a x (packable_duplicable a c) h

-- ---- values that fit

pub fitting_agrees : (w : Known) (a : Kind) (x : Val) → IsWellFormed a → Fits w a x → Agrees a x
fitting_agrees w (k.simple z) x i h = simple_none z x h
fitting_agrees w k.operation (v.operation n) i h = tt
fitting_agrees w (k.option a) v.nothing i h = tt
fitting_agrees w (k.option a) (v.some x) i h = fitting_agrees w a x i h
fitting_agrees w (k.or a b) (v.left x) i h = fitting_agrees w a x i.0 h
fitting_agrees w (k.or a b) (v.right x) i h = fitting_agrees w b x i.1 h
fitting_agrees w (k.pair a b) (v.both x y) i h = (fitting_agrees w a x i.0 h.0, fitting_agrees w b y i.1 h.1)
fitting_agrees w (k.list a) (v.list xs) i h = all_have (Fits w a) (Agrees a) (λ x g. fitting_agrees w a x i g) xs h
fitting_agrees w (k.set a) (v.set xs) i h = (i.0, all_have (Fits w a) (Agrees a) (λ x g. fitting_agrees w a x i.1 g) xs h.0)
fitting_agrees w (k.map a b) (v.table es) i h = (
  i.0,
  entries_have (Fits w a) (Fits w b) (Agrees a) (Agrees b) (λ x g. fitting_agrees w a x i.1 g)
      (λ x g. fitting_agrees w b x i.2 g) es h.0,
  h.1,
)
fitting_agrees w (k.big_map a b) (v.big_table es) i h = (
  i.0,
  entries_have (Fits w a) (Fits w b) (Agrees a) (Agrees b) (λ x g. fitting_agrees w a x i.2 g)
      (λ x g. fitting_agrees w b x i.3 g) es h.0,
  h.1,
)
fitting_agrees w (k.lambda a b) (v.lambda t r) i h = tt
fitting_agrees w (k.contract a) (v.bytes b) i h = tt
fitting_agrees w (k.ticket a) (v.ticket issuer kind content amount) i h = (i.0, fitting_agrees w a content i.1 h.1)
fitting_agrees w _ _ i h = absurd h

-- a stack that fits types that are well formed
pub all_fitting_agree : (w : Known) (A : List Kind) (V : List Val) → AllByRecursion IsWellFormed A → AllFit w A V → AllAgree A V
all_fitting_agree w [] [] i h = tt
all_fitting_agree w (a ∷ A) (x ∷ V) i h = (fitting_agrees w a x i.0 h.0, all_fitting_agree w A V i.1 h.1)
all_fitting_agree w [] (x ∷ V) i h = absurd h
all_fitting_agree w (a ∷ A) [] i h = absurd h
