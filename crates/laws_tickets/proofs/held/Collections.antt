-- What ITER and MAP take out of a collection, and what MAP makes.
use Rattle.std.proofs.Common.{◌≡◌, List, [], ◌∷◌, length, arith}
use Rattle.std.specs.Prelude.{pos, ◌≤ℤ◌}
use Rattle.std.specs.List.{AllByRecursion}
use Rattle.std.proofs.lemmas.Int.{ints}
use Rattle.rules_data.specs.types.Kind.{Kind}
use Rattle.rules_data.specs.types.Kind as k
use Rattle.rules_data.specs.values.Val.{Val, Vals, Pairs, no_pair, more_pairs}
use Rattle.rules_data.specs.values.Val as v
use Rattle.rules_data.specs.values.Forms.{AllHave, AllEntriesHave}
use Rattle.rules_data.specs.values.Tickets.{Identity, tickets, all_tickets, pair_tickets}
use Rattle.rules_code.specs.typing.Fits.{Known, Fits}
use Rattle.rules_code.specs.steps.Changes.{amount_in, amount_among}
use Rattle.rules_code.specs.evaluation.Items.{elements, entries, list_of, with_values, rebuilt}
use Rattle.laws_code.specs.evaluation.Laws.{amount_on}
use Rattle.laws_data.proofs.amounts.ForCallers.{among_append}
use Rattle.laws_code.proofs.control.ForCallers.{each_element, each_entry, list_amount, values_increase}
use Rattle.laws_tickets.proofs.held.Values.{of_each, one_kind_positive}

-- ---- what is taken out

pub elements_fit : (w : Known) (a : Kind) (xs : Vals) → AllHave (Fits w a) xs → AllByRecursion (Fits w a) (elements xs)
elements_fit w a xs h = of_each w a (elements xs) (each_element w a xs h)

pub entries_fit : (w : Known) (a b : Kind) (es : Pairs) → AllEntriesHave (Fits w a) (Fits w b) es → AllByRecursion (Fits w (k.pair a b)) (entries es)
entries_fit w a b es h = of_each w (k.pair a b) (entries es) (each_entry w a b es h)

-- ---- what is made

list_fits : (w : Known) (b : Kind) (ys : List Val) → AllByRecursion (Fits w b) ys → AllHave (Fits w b) (list_of ys)
list_fits w b [] h = tt
list_fits w b (y ∷ ys) h = (h.0, list_fits w b ys h.1)

values_fit : (w : Known) (a b c : Kind) (es : Pairs) (ys : List Val) → AllEntriesHave (Fits w a) (Fits w b) es → AllByRecursion (Fits w c) ys → AllEntriesHave (Fits w a) (Fits w c) (with_values es ys)
values_fit w a b c no_pair ys h i = tt
values_fit w a b c (more_pairs x y es) [] h i = tt
values_fit w a b c (more_pairs x y es) (z ∷ zs) h i = (h.0, i.0, values_fit w a b c es zs h.2 i.1)

values_amount : (id : Identity) (w : Known) (c : Kind) (es : Pairs) (ys : List Val) → AllByRecursion (Fits w c) ys → amount_among id (pair_tickets (with_values es ys)) ≤ℤ amount_on id ys
values_amount id w c no_pair ys h = one_kind_positive id w c ys h
values_amount id w c (more_pairs x y es) [] h = omega (arith, ints)
values_amount id w c (more_pairs x y es) (z ∷ zs) h =
    let i : amount_among id (pair_tickets (with_values es zs)) ≤ℤ amount_on id zs = values_amount id w c es zs h.1 in
    omega (arith, ints, among_append id (tickets z) (pair_tickets (with_values es zs)))

-- a collection, made of results
pub record IsMade (w : Known) (b c : Kind) (ys : List Val) (x : Val) : Type 0 where
  pub fits : Fits w c x
  pub amount : (id : Identity) → amount_in id x ≤ℤ amount_on id ys

pub list_made : (w : Known) (b : Kind) (xs : Vals) (ys : List Val) → AllByRecursion (Fits w b) ys → IsMade w b (k.list b) ys (rebuilt (v.list xs) ys)
list_made w b xs ys h = record { fits = list_fits w b ys h; amount = λ id. let q : amount_among id (all_tickets (list_of ys)) ≡ amount_on id ys = list_amount id ys in omega (arith, ints, q) }

pub table_made : (w : Known) (a c b : Kind) (es : Pairs) (ys : List Val) → Fits w (k.map a c) (v.table es) → AllByRecursion (Fits w b) ys → IsMade w b (k.map a b) ys (rebuilt (v.table es) ys)
table_made w a c b es ys f h = record { fits = (values_fit w a c b es ys f.0 h, values_increase es ys f.1); amount = λ id. values_amount id w b es ys h }

pub some_made : (w : Known) (b : Kind) (x : Val) (ys : List Val) → length ys ≡ 1 → AllByRecursion (Fits w b) ys → IsMade w b (k.option b) ys (rebuilt (v.some x) ys)
some_made w b x [] n h = absurd (omega (arith, n))
some_made w b x (y ∷ ys) n h = record {
  fits = h.0;
  amount = λ id. let q : pos 0 ≤ℤ amount_on id ys = one_kind_positive id w b ys h.1 in omega (arith, ints, q);
}

pub none_made : (w : Known) (b : Kind) (ys : List Val) → AllByRecursion (Fits w b) ys → IsMade w b (k.option b) ys (rebuilt v.nothing ys)
none_made w b ys h = record { fits = tt; amount = λ id. one_kind_positive id w b ys h }
