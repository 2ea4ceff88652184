-- The test of two types, and of two lists of types.
use Rattle.std.proofs.Common.{◌≡◌, ℕ, ◌==◌, if◌then◌else◌, arith, true, List, [], ◌∷◌, refl, sym, ap, ◌∙◌}
use Rattle.std.proofs.lemmas.Bool.{and_parts, and_from}
use Rattle.std.proofs.lemmas.Bool.Decides.{nat_tests}
use Rattle.rules_data.specs.declared.types.Simple.{Simple}
use Rattle.rules_data.specs.declared.types.Simple.TheVariants as s
use Rattle.rules_data.specs.types.Kind.{Kind}
use Rattle.rules_data.specs.types.Kind as k
use Rattle.rules_code.specs.instructions.Same.{place, same_kind, same_kinds}

same_place : (a : ℕ) → a == a ≡ true
same_place a = grind (arith, nat_tests)

at_place : ℕ → Simple
at_place n =
    if n == 0 then s.Unit else if n == 1 then s.Never else if n == 2 then s.Bool else if n == 3 then s.Int else if n == 4 then s.Nat else if n == 5 then s.String else if n == 6 then s.Bytes
    else if n == 7 then s.Mutez else if n == 8 then s.Timestamp else if n == 9 then s.Key else if n == 10 then s.KeyHash else if n == 11 then s.Signature else if n == 12 then s.ChainId else s.Address

place_back : (u : Simple) → at_place (place u) ≡ u
unfolding at_place
place_back s.Unit = refl
place_back s.Never = refl
place_back s.Bool = refl
place_back s.Int = refl
place_back s.Nat = refl
place_back s.String = refl
place_back s.Bytes = refl
place_back s.Mutez = refl
place_back s.Timestamp = refl
place_back s.Key = refl
place_back s.KeyHash = refl
place_back s.Signature = refl
place_back s.ChainId = refl
place_back s.Address = refl

same_simple : (u w : Simple) → place u == place w ≡ true → u ≡ w
same_simple u w h =
    let e : place u ≡ place w = grind (arith, nat_tests) in
    sym (place_back u) ∙ ap at_place e ∙ place_back w

pub same_kind_refl : (a : Kind) → same_kind a a ≡ true
same_kind_refl (k.simple u) = same_place (place u)
same_kind_refl k.operation = refl
same_kind_refl (k.option a) = same_kind_refl a
same_kind_refl (k.or a b) = and_from _ _ (same_kind_refl a) (same_kind_refl b)
same_kind_refl (k.pair a b) = and_from _ _ (same_kind_refl a) (same_kind_refl b)
same_kind_refl (k.list a) = same_kind_refl a
same_kind_refl (k.set a) = same_kind_refl a
same_kind_refl (k.map a b) = and_from _ _ (same_kind_refl a) (same_kind_refl b)
same_kind_refl (k.big_map a b) = and_from _ _ (same_kind_refl a) (same_kind_refl b)
same_kind_refl (k.lambda a b) = and_from _ _ (same_kind_refl a) (same_kind_refl b)
same_kind_refl (k.contract a) = same_kind_refl a
same_kind_refl (k.ticket a) = same_kind_refl a

two_same : (f : Kind → Kind → Kind) (a b c d : Kind) → a ≡ c → b ≡ d → f a b ≡ f c d
two_same f a b c d e g = ap (λ x. f x b) e ∙ ap (f c) g

pub same_kind_true : (a b : Kind) → same_kind a b ≡ true → a ≡ b
same_kind_true (k.simple u) (k.simple w) h = ap k.simple (same_simple u w h)
same_kind_true k.operation k.operation h = refl
same_kind_true (k.option a) (k.option b) h = ap k.option (same_kind_true a b h)
same_kind_true (k.or a b) (k.or c d) h = let hs = and_parts _ _ h in two_same k.or a b c d (same_kind_true a c hs.0) (same_kind_true b d hs.1)
same_kind_true (k.pair a b) (k.pair c d) h = let hs = and_parts _ _ h in two_same k.pair a b c d (same_kind_true a c hs.0) (same_kind_true b d hs.1)
same_kind_true (k.list a) (k.list b) h = ap k.list (same_kind_true a b h)
same_kind_true (k.set a) (k.set b) h = ap k.set (same_kind_true a b h)
same_kind_true (k.map a b) (k.map c d) h = let hs = and_parts _ _ h in two_same k.map a b c d (same_kind_true a c hs.0) (same_kind_true b d hs.1)
same_kind_true (k.big_map a b) (k.big_map c d) h = let hs = and_parts _ _ h in two_same k.big_map a b c d (same_kind_true a c hs.0) (same_kind_true b d hs.1)
same_kind_true (k.lambda a b) (k.lambda c d) h = let hs = and_parts _ _ h in two_same k.lambda a b c d (same_kind_true a c hs.0) (same_kind_true b d hs.1)
same_kind_true (k.contract a) (k.contract b) h = ap k.contract (same_kind_true a b h)
same_kind_true (k.ticket a) (k.ticket b) h = ap k.ticket (same_kind_true a b h)
same_kind_true _ _ h = absurd cc

pub same_kinds_refl : (A : List Kind) → same_kinds A A ≡ true
same_kinds_refl [] = refl
same_kinds_refl (a ∷ A) = and_from _ _ (same_kind_refl a) (same_kinds_refl A)

pub same_kinds_true : (A B : List Kind) → same_kinds A B ≡ true → A ≡ B
same_kinds_true [] [] h = refl
same_kinds_true (a ∷ A) (b ∷ B) h =
    let hs = and_parts _ _ h in
    let l : a ≡ b = same_kind_true a b hs.0 in
    let r : A ≡ B = same_kinds_true A B hs.1 in
    cc
same_kinds_true _ _ h = absurd cc
