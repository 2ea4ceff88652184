-- The limit of types, where each stack that is told is within it.
use Rattle.std.proofs.Common.{◌≡◌, Bool, true, false, ◌&&◌, cond, Option, Some, None, List, [], ◌∷◌, refl, sym, ap, ◌∙◌, subst}
use Rattle.std.specs.List.{list_all}
use Rattle.std.specs.Prelude.{option_and_then}
use Rattle.std.proofs.lemmas.Bool.{and_parts}
use Rattle.rules_data.specs.types.Kind.{Kind}
use Rattle.rules_code.specs.instructions.Same.{same_kind, same_kinds}
use Rattle.rules_code.specs.typing.Scripts.{is_small}
use Rattle.rules_code.specs.typing.Typing.{Typing, goes, fails, bad, made}
use Rattle.rules_code.specs.typing.Typing as typing
use Rattle.rules_code.specs.certificates.Derivation.{Entry, before, end, failing}
use Rattle.laws_data.proofs.types_lemmas.ForCallers.{same_kind_true}
use Rattle.mich_cert.specs.Walk.{same_entry, past, is_stack, leading, AreSmall}

-- what is past entries is within the limit too
pub past_small : (ds es fs : List Entry) → past ds es ≡ Some fs → AreSmall es → AreSmall fs
past_small [] es fs e h = let s : es ≡ fs = cc in subst AreSmall s h
past_small (d ∷ ds) [] fs e h = absurd cc
past_small (d ∷ ds) (f ∷ es) fs e h = by (λ g. past_small ds es fs g) (same_entry d f) e
  where
    rest : (g : Entry) → AreSmall (g ∷ es) → AreSmall es
    rest (before l A) h = h.1
    rest (end l A) h = h.1
    rest (failing l) h = h

    by : (past ds es ≡ Some fs → AreSmall es → AreSmall fs) → (q : Bool) → cond q (past ds es) None ≡ Some fs → AreSmall fs
    by g true e = g e (rest f h)
    by g false e = absurd cc

-- a stack that is within the limit doesn't begin with a type that isn't
pub other_top : (a b : Kind) (B : List Kind) → is_small a ≡ false → list_all is_small (b ∷ B) ≡ true → same_kind a b ≡ false
other_top a b B e h = by (same_kind a b) refl
  where
    by : (q : Bool) → same_kind a b ≡ q → same_kind a b ≡ false
    by false f = f
    by true f =
        let small : is_small b ≡ true = (and_parts (is_small b) (list_all is_small B) h).0 in
        let large : is_small b ≡ false = subst (λ c. is_small c ≡ false) (same_kind_true a b f) e in
        absurd cc

not_told : (a : Kind) (A B : List Kind) (es : List Entry) → is_small a ≡ false → list_all is_small B ≡ true →
    None ≡ cond (is_stack (a ∷ A) (Some B)) (Some es) None
not_told a A [] es e h = refl
not_told a A (b ∷ B) es e h = ap (λ q. cond (q && same_kinds A B) (Some es) None) (sym (other_top a b B e h))

too_large : (a : Kind) (A : List Kind) (es : List Entry) → is_small a ≡ false → AreSmall es → None ≡ leading (goes (a ∷ A)) es
too_large a A [] e h = refl
too_large a A (before l B ∷ es) e h = not_told a A B (before l B ∷ es) e h.0
too_large a A (end l B ∷ es) e h = not_told a A B (end l B ∷ es) e h.0
too_large a A (failing l ∷ es) e h = refl

-- a type that is made leads to the same as one without a limit
pub made_leads : (a : Kind) (A : List Kind) (es : List Entry) → AreSmall es → leading (made a A) es ≡ leading (goes (a ∷ A)) es
made_leads a A es h = by (is_small a) refl
  where
    by : (q : Bool) → is_small a ≡ q → leading (made a A) es ≡ leading (goes (a ∷ A)) es
    by true e = ap (λ q. leading (cond q (goes (a ∷ A)) (bad 0)) es) e
    by false e = ap (λ q. leading (cond q (goes (a ∷ A)) (bad 0)) es) e ∙ too_large a A es e h

ends_leads : (T : Typing) (E : List Kind) (a : Kind) (A : List Kind) (es : List Entry) → AreSmall es →
    leading (typing.ends T E (made a A)) es ≡ leading (typing.ends T E (goes (a ∷ A))) es
ends_leads (goes B) E a A es h = by (same_kinds B E)
  where
    by : (q : Bool) → leading (cond q (made a A) (bad 0)) es ≡ leading (cond q (goes (a ∷ A)) (bad 0)) es
    by true = made_leads a A es h
    by false = refl
ends_leads fails E a A es h = made_leads a A es h
ends_leads (bad l) E a A es h = refl

-- the same behind the entries of a body
pub ends_past : (T : Typing) (E : List Kind) (a : Kind) (A : List Kind) (X es : List Entry) → AreSmall es →
    option_and_then (leading (typing.ends T E (goes (a ∷ A)))) (past X es) ≡ option_and_then (leading (typing.ends T E (made a A))) (past X es)
ends_past T E a A X es h = by (past X es) refl
  where
    by : (o : Option (List Entry)) → past X es ≡ o →
        option_and_then (leading (typing.ends T E (goes (a ∷ A)))) o ≡ option_and_then (leading (typing.ends T E (made a A))) o
    by None e = refl
    by (Some fs) e = sym (ends_leads T E a A fs (past_small X es fs e h))

-- ---- a type that is tried first

rec_leads : (T : Typing) (E : List Kind) (a : Kind) (A : List Kind) (es : List Entry) → is_small a ≡ false → AreSmall es →
    leading (typing.ends T E (goes (a ∷ A))) es ≡ None
rec_leads (goes B) E a A es e h = by (same_kinds B E)
  where
    by : (q : Bool) → leading (cond q (goes (a ∷ A)) (bad 0)) es ≡ None
    by true = sym (too_large a A es e h)
    by false = refl
rec_leads fails E a A es e h = sym (too_large a A es e h)
rec_leads (bad l) E a A es e h = refl

no_leads : (o : Option (List Entry)) → None ≡ option_and_then (leading (bad 0)) o
no_leads None = refl
no_leads (Some es) = refl

pub rec_past : (T : Typing) (E : List Kind) (a : Kind) (A : List Kind) (X es : List Entry) → AreSmall es →
    option_and_then (leading (typing.ends T E (goes (a ∷ A)))) (past X es)
    ≡ option_and_then (leading (cond (is_small a) (typing.ends T E (goes (a ∷ A))) (bad 0))) (past X es)
rec_past T E a A X es h = by (is_small a) refl
  where
    step : (o : Option (List Entry)) → past X es ≡ o → is_small a ≡ false → option_and_then (leading (typing.ends T E (goes (a ∷ A)))) o ≡ None
    step None e f = refl
    step (Some fs) e f = rec_leads T E a A fs f (past_small X es fs e h)

    by : (q : Bool) → is_small a ≡ q →
        option_and_then (leading (typing.ends T E (goes (a ∷ A)))) (past X es)
        ≡ option_and_then (leading (cond q (typing.ends T E (goes (a ∷ A))) (bad 0))) (past X es)
    by true f = refl
    by false f = step (past X es) refl f ∙ no_leads (past X es)
