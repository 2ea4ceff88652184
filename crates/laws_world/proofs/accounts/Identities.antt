-- Tickets in their order, and tickets that are alike.
use Rattle.std.proofs.Common.{◌≡◌, ℕ, List, Bool, true, false, ◌&&◌, refl, sym, ap, ◌∙◌}
use Rattle.std.specs.declared.cmp.Ordering.{Ordering}
use Rattle.std.specs.declared.cmp.Ordering.TheVariants.{Less, Equal, Greater}
use Rattle.std.specs.Ordering.{nat_cmp, ordering_then, is_eq}
use Rattle.std.specs.Cmp.{IsTotalOrder}
use Rattle.std.specs.Cmp.Lexicographic.{slice_cmp, texts_ties}
use Rattle.std.specs.Str.{bytes_eq}
use Rattle.std.proofs.lemmas.Cmp.{nat_list_cmp_total, on_total, then_total, tied_itself}
use Rattle.std.proofs.lemmas.Map.Lookups.{exact_bytes}
use Rattle.rules_text.specs.text.Printed.{printed}
use Rattle.rules_data.specs.types.Kind.{Kind}
use Rattle.rules_data.specs.types.Printing.{node_of}
use Rattle.rules_data.specs.values.Order.{order}
use Rattle.rules_data.specs.values.Tickets.{Identity}
use Rattle.rules_code.specs.instructions.Same.{same_kind}
use Rattle.rules_code.specs.steps.Changes.{is_alike}
use Rattle.rules_world.specs.world.World.{kind_order, identity_order}
use Rattle.laws_data.proofs.values_lemmas.ForCallers.{order_lawful}
use Rattle.laws_data.proofs.types_lemmas.ForCallers.{same_kind_refl, same_kind_true}
use Rattle.laws_world.proofs.accounts.KindTexts.{texts_tell_types}

pub identity_total : IsTotalOrder identity_order
identity_total =
    then_total (on_total (λ (i : Identity). i.issuer) nat_list_cmp_total)
    (then_total (on_total (λ (i : Identity). printed (node_of i.kind)) nat_list_cmp_total)
    (on_total (λ (i : Identity). i.content) order_lawful))

-- ---- tests

both_tests : (a b : Bool) → (a ≡ true → b ≡ true) → (b ≡ true → a ≡ true) → a ≡ b
both_tests true b f g = sym (f refl)
both_tests false true f g = g refl
both_tests false false f g = refl

pub equal_of : (r : Ordering) → is_eq r ≡ true → r ≡ Equal
equal_of Less e = cc
equal_of Equal e = refl
equal_of Greater e = cc

then_equal : (r s : Ordering) → is_eq (ordering_then r s) ≡ (is_eq r && is_eq s)
then_equal Less s = refl
then_equal Equal s = refl
then_equal Greater s = refl

kinds_alike : (a b : Kind) → same_kind a b ≡ is_eq (kind_order a b)
kinds_alike a b =
    both_tests (same_kind a b) (is_eq (kind_order a b))
    (λ h. ap is_eq (ap (λ c. kind_order a c) (sym (same_kind_true a b h)) ∙ tied_itself nat_list_cmp_total (printed (node_of a))))
    (λ h. ap (same_kind a) (sym (texts_tell_types a b (exact_bytes _ _ (equal_of (kind_order a b) h)))) ∙ same_kind_refl a)

-- tickets are alike where their order says so
pub alike_equal : (i j : Identity) → is_alike i j ≡ is_eq (identity_order i j)
alike_equal i j =
    let issuers : bytes_eq i.issuer j.issuer ≡ is_eq (slice_cmp nat_cmp i.issuer j.issuer) = issuers_alike i.issuer j.issuer in
    ap (λ b. b && same_kind i.kind j.kind && is_eq (order i.content j.content)) issuers
    ∙ ap (λ b. is_eq (slice_cmp nat_cmp i.issuer j.issuer) && b && is_eq (order i.content j.content)) (kinds_alike i.kind j.kind)
    ∙ by (slice_cmp nat_cmp i.issuer j.issuer) (kind_order i.kind j.kind) (order i.content j.content)
  where
    issuers_alike : (s t : List ℕ) → bytes_eq s t ≡ is_eq (slice_cmp nat_cmp s t)
    issuers_alike s t = texts_ties s t

    by : (a b c : Ordering) → (is_eq a && is_eq b && is_eq c) ≡ is_eq (ordering_then a (ordering_then b c))
    by Less b c = refl
    by Equal Less c = refl
    by Equal Equal c = refl
    by Equal Greater c = refl
    by Greater b c = refl
