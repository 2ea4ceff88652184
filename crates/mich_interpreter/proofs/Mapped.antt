-- What values of the code stand for, by their form.
use Rattle.std.proofs.Common.{◌≡◌, Bool, List, [], ◌∷◌, ◌++◌, map, append_assoc, refl, sym, ap, ◌∙◌, rules}
use Rattle.std.proofs.lemmas.List.{map-append}
use Rattle.rules_data.specs.values.Val as v
use Rattle.rules_code.specs.evaluation.Items.{elements, entries}
use Rattle.mich_base.specs.View.{tree}
use Rattle.mich_base.specs.declared.node.Node.{Node}
use Rattle.mich_term.specs.View.{datum, datums, pairs_of}
use Rattle.mich_term.specs.ValueView.{val}
use Rattle.mich_term.specs.declared.datum.Datum.{Datum}
use Rattle.mich_term.specs.declared.value.Value.{Value}
use Rattle.mich_term.specs.declared.value.Value as values
use Rattle.mich_term.specs.declared.value.Value.TheVariants as value
use Rattle.mich_stack.specs.Views.{Sight, seen}
use Rattle.mich_interpreter.specs.Items.{entry_pair, entry_by}
use Rattle.mich_interpreter.proofs.Flat.{datum_is}
use Rattle.mich_interpreter.proofs.Listed.{elements_are}

pub seen_set : (big : Sight) (ds : List Datum) → seen big (value.Set ds) ≡ v.set (datums ds)
seen_set big ds = search (rules, values.the_lemmas)

pub seen_table : (big : Sight) (es : List (Datum × Value)) → seen big (value.Map es) ≡ v.table (pairs_of (map (entry_by big) es))
seen_table big es = search (rules, values.the_lemmas)

pub seen_pair : (big : Sight) (x y : Value) → seen big (value.Pair x y) ≡ v.both (seen big x) (seen big y)
seen_pair big x y = search (rules, values.the_lemmas)

pub seen_lambda : (big : Sight) (n : Node) (r : Bool) → seen big (value.Lambda n r) ≡ v.lambda (tree n) r
seen_lambda big n r = search (rules, values.the_lemmas)

pub elements_are_data : (ds : List Datum) → elements (datums ds) ≡ map datum ds
elements_are_data ds = elements_are (map datum ds)

pub entries_are : (big : Sight) (es : List (Datum × Value)) → entries (pairs_of (map (entry_by big) es)) ≡ map (entry_pair big) es
entries_are big [] = refl
entries_are big (e ∷ es) = ap (λ xs. entry_pair big e ∷ xs) (entries_are big es)

-- a key and a value as a pair
pub pair_is : (big : Sight) (k : Datum) (first second : Value) → val first ≡ datum k → seen big (value.Pair first second) ≡ entry_pair big (k, second)
pair_is big k first second e = seen_pair big first second ∙ ap (λ x. v.both x (seen big second)) (datum_is big first k e)

-- one more element as a value
pub elements_step : (big : Sight) (vs new : List Value) (x : Value) (iter rest all : List Datum) (d : Datum) → iter ≡ d ∷ rest → new ≡ vs ++ x ∷ [] → val x ≡ datum d →
    map (seen big) vs ++ map datum iter ≡ map datum all → map (seen big) new ++ map datum rest ≡ map datum all
elements_step big vs new x iter rest all d step pushed e so_far =
    ap (λ l. map (seen big) l ++ map datum rest) pushed
    ∙ ap (λ l. l ++ map datum rest) (map-append (seen big) vs (x ∷ []))
    ∙ append_assoc (map (seen big) vs) (seen big x ∷ []) (map datum rest)
    ∙ ap (λ y. map (seen big) vs ++ y ∷ map datum rest) (datum_is big x d e)
    ∙ ap (λ ds. map (seen big) vs ++ map datum ds) (sym step)
    ∙ so_far
