-- Values with the parts that their types name.
use Rattle.std.proofs.Common.{◌≡◌, ℕ, ℤ, Bool, List, [], ◌∷◌, ◌++◌, sym, ap, ◌∙◌, subst}
use Rattle.std.specs.Prelude.{Result, IfOk}
use Rattle.std.specs.List.{AllByRecursion}
use Rattle.std.specs.declared.cmp.Ordering.{Ordering}
use Rattle.std.specs.declared.cmp.Ordering.TheVariants.{Less, Equal, Greater}
use Rattle.std.specs.Ordering.{match_ordering}
use Rattle.rules_data.specs.types.Kind.{Kind}
use Rattle.rules_data.specs.types.Kind as k
use Rattle.mich_term.specs.Keyed.{by, with}
use Rattle.mich_term.specs.declared.datum.Datum.{Datum}
use Rattle.mich_term.specs.declared.value.Value.{Value, out-Value, out-roll-Value}
use Rattle.mich_term.specs.declared.value.Value.TheOpen.{Value-F}
use Rattle.mich_term.specs.declared.value.Value.TheVariants as v
use Rattle.mich_term.specs.declared.value.Value.TheVariants.{rolls-List, rolls-BigMap, rolls-Unit, rolls-Bool, rolls-Number, rolls-Text, rolls-Bytes}
use Rattle.mich_term.specs.declared.value.BigMap.{BigMap}
use Rattle.mich_data.specs.declared.error.ValueError.{ValueError}
use Rattle.mich_data.specs.Whole.{IsSimple, IsListOf, IsBig, LiesWhole, IsWhole, AreWholeEntries}

-- ---- values by their forms

pub unit_simple : IsSimple (out-Value v.Unit)
unit_simple = subst IsSimple (sym (ap out-Value (sym rolls-Unit) ∙ out-roll-Value Value-F.Unit)) tt

pub bool_simple : (b : Bool) → IsSimple (out-Value (v.Bool b))
bool_simple b = subst IsSimple (sym (ap out-Value (sym (rolls-Bool b)) ∙ out-roll-Value (Value-F.Bool b))) tt

pub number_simple : (n : ℤ) → IsSimple (out-Value (v.Number n))
number_simple n = subst IsSimple (sym (ap out-Value (sym (rolls-Number n)) ∙ out-roll-Value (Value-F.Number n))) tt

pub text_simple : (s : List ℕ) → IsSimple (out-Value (v.Text s))
text_simple s = subst IsSimple (sym (ap out-Value (sym (rolls-Text s)) ∙ out-roll-Value (Value-F.Text s))) tt

pub bytes_simple : (s : List ℕ) → IsSimple (out-Value (v.Bytes s))
bytes_simple s = subst IsSimple (sym (ap out-Value (sym (rolls-Bytes s)) ∙ out-roll-Value (Value-F.Bytes s))) tt

pub list_whole : (a : Kind) (xs : List Value) → AllByRecursion (IsWhole a) xs → IsWhole (k.list a) (v.List xs)
list_whole a xs h = subst (λ l. IsListOf l (IsWhole a)) (sym (ap out-Value (sym (rolls-List xs)) ∙ out-roll-Value (Value-F.List xs))) h

pub big_map_whole : (a b : Kind) (m : BigMap) → LiesWhole (IsWhole b) m → IsWhole (k.big_map a b) (v.BigMap m)
big_map_whole a b m h = subst (λ l. IsBig l (LiesWhole (IsWhole b))) (sym (ap out-Value (sym (rolls-BigMap m)) ∙ out-roll-Value (Value-F.BigMap m))) h

-- ---- elements and entries

all_push : (P : Value → Type 0) (xs : List Value) (x : Value) → AllByRecursion P xs → P x → AllByRecursion P (xs ++ x ∷ [])
all_push P [] x h p = (p, tt)
all_push P (y ∷ xs) x h p = (h.0, all_push P xs x h.1 p)

pub values_whole : (a : Kind) (xs ys : List Value) (x : Value) → AllByRecursion (IsWhole a) xs → IsWhole a x → ys ≡ xs ++ x ∷ [] → AllByRecursion (IsWhole a) ys
values_whole a xs ys x h p e = subst (AllByRecursion (IsWhole a)) (sym e) (all_push (IsWhole a) xs x h p)

-- what is so of the value of each entry is so where one is put
pub all_with : (P : Value → Type 0) (d : Datum) (x : Value) (es : List (Datum × Value)) → AllByRecursion (λ e. P e.1) es → P x → AllByRecursion (λ e. P e.1) (with d x es)
all_with P d x [] h p = (p, tt)
all_with P d x (e ∷ es) h p = at (by d e.0) (all_with P d x es h.1 p)
  where
    at : (o : Ordering) → AllByRecursion (λ f. P f.1) (with d x es) → AllByRecursion (λ f. P f.1) (match_ordering o ((d, x) ∷ e ∷ es) ((e.0, x) ∷ es) (e ∷ with d x es))
    at Less later = (p, h)
    at Equal later = (p, h.1)
    at Greater later = (h.0, later)

pub entries_whole : (a : Kind) (d : Datum) (x : Value) (es fs : List (Datum × Value)) → AreWholeEntries a es → IsWhole a x → fs ≡ with d x es → AreWholeEntries a fs
entries_whole a d x es fs h i e = subst (AreWholeEntries a) (sym e) (all_with (IsWhole a) d x es h i)

-- ---- types that are equal

pub whole_at : (a b : Kind) (r : Result Value ValueError) → a ≡ b → IfOk r (λ v. IsWhole b v) → IfOk r (λ v. IsWhole a v)
whole_at a b r e h = subst (λ x. IfOk r (λ v. IsWhole x v)) (sym e) h
