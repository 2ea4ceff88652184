-- Lists of values: their parts, the types that they fit, and their tickets.
use Rattle.std.proofs.Common.{◌≡◌, ℕ, zero, suc, List, [], ◌∷◌, ◌++◌, take, drop, arith}
use Rattle.std.specs.Prelude.{pos, ◌+ℤ◌, ◌≤ℤ◌}
use Rattle.std.specs.List.{AllByRecursion}
use Rattle.std.proofs.lemmas.Int.{ints}
use Rattle.rules_data.specs.types.Kind.{Kind}
use Rattle.rules_data.specs.values.Val.{Val}
use Rattle.rules_data.specs.values.Tickets.{Identity}
use Rattle.rules_code.specs.typing.Fits.{Known, Fits, AllFit}
use Rattle.rules_code.specs.steps.Changes.{amount_in}
use Rattle.laws_code.specs.evaluation.Laws.{amount_on}
use Rattle.laws_code.specs.stacks.Sound.{AllTypes}
use Rattle.laws_code.proofs.stacks.ForCallers.{positive, Knows, fits_grow}
use Rattle.laws_code.proofs.control.ForCallers.{Each}

pub take_fit : (w : Known) (n : ℕ) (A : List Kind) (V : List Val) → AllFit w A V → AllFit w (take n A) (take n V)
take_fit w zero A V h = tt
take_fit w (suc n) [] [] h = tt
take_fit w (suc n) (a ∷ A) (x ∷ V) h = (h.0, take_fit w n A V h.1)
take_fit w (suc n) [] (x ∷ V) h = absurd h
take_fit w (suc n) (a ∷ A) [] h = absurd h

pub take_types : (n : ℕ) (A : List Kind) → AllTypes A → AllTypes (take n A)
take_types zero A h = tt
take_types (suc n) [] h = tt
take_types (suc n) (a ∷ A) h = (h.0, take_types n A h.1)

pub split_amount : (id : Identity) (n : ℕ) (V : List Val) → amount_on id (take n V) +ℤ amount_on id (drop n V) ≡ amount_on id V
split_amount id zero V = omega (arith, ints)
split_amount id (suc n) [] = omega (arith, ints)
split_amount id (suc n) (x ∷ V) = let h = split_amount id n V in omega (arith, ints, h)

-- values of one type, in both words
pub each_of : (w : Known) (a : Kind) (xs : List Val) → AllByRecursion (Fits w a) xs → Each w a xs
each_of w a [] h = tt
each_of w a (x ∷ xs) h = (h.0, each_of w a xs h.1)

pub of_each : (w : Known) (a : Kind) (xs : List Val) → Each w a xs → AllByRecursion (Fits w a) xs
of_each w a [] h = tt
of_each w a (x ∷ xs) h = (h.0, of_each w a xs h.1)

pub all_one_grow : (w u : Known) → Knows w u → (a : Kind) (xs : List Val) → AllByRecursion (Fits w a) xs → AllByRecursion (Fits u a) xs
all_one_grow w u g a [] h = tt
all_one_grow w u g a (x ∷ xs) h = (fits_grow w u g a x h.0, all_one_grow w u g a xs h.1)

pub all_one_last : (w : Known) (a : Kind) (xs : List Val) (y : Val) → AllByRecursion (Fits w a) xs → Fits w a y → AllByRecursion (Fits w a) (xs ++ y ∷ [])
all_one_last w a [] y h i = (i, tt)
all_one_last w a (x ∷ xs) y h i = (h.0, all_one_last w a xs y h.1 i)

pub one_kind_positive : (id : Identity) (w : Known) (a : Kind) (xs : List Val) → AllByRecursion (Fits w a) xs → pos 0 ≤ℤ amount_on id xs
one_kind_positive id w a [] h = omega (arith, ints)
one_kind_positive id w a (x ∷ xs) h =
    let p : pos 0 ≤ℤ amount_in id x = positive id w a x h.0 in
    let q : pos 0 ≤ℤ amount_on id xs = one_kind_positive id w a xs h.1 in
    omega (arith, ints, p, q)
