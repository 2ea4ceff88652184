-- The test of two types.
use Rattle.std.proofs.Common.{◌≡◌, ℕ, true, List, [], ◌∷◌, refl, sym, ap, ◌∙◌, subst}
use Rattle.std.specs.Prelude.{slice_get, unwrap_or}
use Rattle.std.proofs.lemmas.Bool.{eqb-true, and_parts}
use Rattle.rules_data.specs.declared.types.Simple.{Simple}
use Rattle.rules_data.specs.declared.types.Simple.TheVariants as s
use Rattle.rules_data.specs.types.Kind.{Kind, simple, operation, option, or, pair, list, set, map, big_map, lambda, contract, ticket}
use Rattle.rules_code.specs.instructions.Same.{place, same_kind, same_kinds}
use Rattle.laws_tickets.specs.totals.Agreement.{Agrees}
use Rattle.rules_data.specs.values.Val.{Val}

-- the types without arguments, by their numbers
abbrev simples : List Simple
simples =
    s.Unit ∷ s.Never ∷ s.Bool ∷ s.Int ∷ s.Nat ∷ s.String ∷ s.Bytes ∷ s.Mutez ∷ s.Timestamp ∷ s.Key ∷ s.KeyHash ∷ s.Signature ∷ s.ChainId ∷ s.Address ∷ []

abbrev at_place : ℕ → Simple
at_place n = unwrap_or (slice_get simples n) s.Unit

placed : (a : Simple) → at_place (place a) ≡ a
placed s.Unit = refl
placed s.Never = refl
placed s.Bool = refl
placed s.Int = refl
placed s.Nat = refl
placed s.String = refl
placed s.Bytes = refl
placed s.Mutez = refl
placed s.Timestamp = refl
placed s.Key = refl
placed s.KeyHash = refl
placed s.Signature = refl
placed s.ChainId = refl
placed s.Address = refl

same_simple : (a b : Simple) → place a ≡ place b → a ≡ b
same_simple a b e = sym (placed a) ∙ ap at_place e ∙ placed b

pub same_kind_true : (a b : Kind) → same_kind a b ≡ true → a ≡ b
same_kind_true (simple a) (simple b) h = ap simple (same_simple a b (eqb-true (place a) (place b) h))
same_kind_true operation operation h = refl
same_kind_true (option a) (option b) h = ap option (same_kind_true a b h)
same_kind_true (list a) (list b) h = ap list (same_kind_true a b h)
same_kind_true (set a) (set b) h = ap set (same_kind_true a b h)
same_kind_true (contract a) (contract b) h = ap contract (same_kind_true a b h)
same_kind_true (ticket a) (ticket b) h = ap ticket (same_kind_true a b h)
same_kind_true (or a b) (or c d) h =
    let l : a ≡ c = same_kind_true a c (and_parts (same_kind a c) (same_kind b d) h).0 in
    let r : b ≡ d = same_kind_true b d (and_parts (same_kind a c) (same_kind b d) h).1 in
    cc
same_kind_true (pair a b) (pair c d) h =
    let l : a ≡ c = same_kind_true a c (and_parts (same_kind a c) (same_kind b d) h).0 in
    let r : b ≡ d = same_kind_true b d (and_parts (same_kind a c) (same_kind b d) h).1 in
    cc
same_kind_true (map a b) (map c d) h =
    let l : a ≡ c = same_kind_true a c (and_parts (same_kind a c) (same_kind b d) h).0 in
    let r : b ≡ d = same_kind_true b d (and_parts (same_kind a c) (same_kind b d) h).1 in
    cc
same_kind_true (big_map a b) (big_map c d) h =
    let l : a ≡ c = same_kind_true a c (and_parts (same_kind a c) (same_kind b d) h).0 in
    let r : b ≡ d = same_kind_true b d (and_parts (same_kind a c) (same_kind b d) h).1 in
    cc
same_kind_true (lambda a b) (lambda c d) h =
    let l : a ≡ c = same_kind_true a c (and_parts (same_kind a c) (same_kind b d) h).0 in
    let r : b ≡ d = same_kind_true b d (and_parts (same_kind a c) (same_kind b d) h).1 in
    cc
same_kind_true _ _ h = cc

pub same_kinds_true : (A B : List Kind) → same_kinds A B ≡ true → A ≡ B
same_kinds_true [] [] h = refl
same_kinds_true (a ∷ A) (b ∷ B) h =
    let l : a ≡ b = same_kind_true a b (and_parts (same_kind a b) (same_kinds A B) h).0 in
    let r : A ≡ B = same_kinds_true A B (and_parts (same_kind a b) (same_kinds A B) h).1 in
    cc
same_kinds_true _ _ h = cc

-- a value agrees with the one as with the other
pub same_agrees : (a b : Kind) (x : Val) → same_kind a b ≡ true → Agrees a x → Agrees b x
same_agrees a b x h g = subst (λ c. Agrees c x) (same_kind_true a b h) g

pub back_agrees : (a b : Kind) (x : Val) → same_kind a b ≡ true → Agrees b x → Agrees a x
back_agrees a b x h g = subst (λ c. Agrees c x) (sym (same_kind_true a b h)) g
