-- What the order of tickets holds for equal is equal, where contents are of comparable types.
use Rattle.std.proofs.Common.{◌≡◌, refl, ap, ◌∙◌, true, List, [], ◌∷◌}
use Rattle.std.specs.Prelude.{ℤ}
use Rattle.std.specs.List.{AllByRecursion}
use Rattle.std.specs.declared.cmp.Ordering.TheVariants.{Equal}
use Rattle.std.specs.Ordering.{nat_cmp}
use Rattle.std.proofs.lemmas.Map.Lookups.{exact_signed, exact_bytes}
use Rattle.rules_data.specs.types.Kind.{Kind}
use Rattle.rules_data.specs.types.Printing.{node_of}
use Rattle.rules_text.specs.text.Printed.{printed}
use Rattle.rules_data.specs.values.Order.{order, form}
use Rattle.rules_data.specs.values.Tickets.{Identity}
use Rattle.rules_data.specs.values.Val.{Val, unit, truth, number, text, bytes, nothing, some, left, right, both, list, set, table, big_table, lambda, operation, ticket, is_comparable}
use Rattle.rules_world.specs.world.World.{identity_order, kind_order}
use Rattle.laws_data.proofs.values_lemmas.ForCallers.{same_truth, first_equal, then_equal, first_true, then_true}
use Rattle.laws_world.proofs.accounts.ForCallers.{texts_tell_types}
use Rattle.laws_world.proofs.lines_lemmas.Aligned.{AreAlike}

-- a value of a comparable type is no other
not_level : (w : Val) → is_comparable w ≡ true → nat_cmp 10 (form w) ≡ Equal → ⊥
not_level unit c e = cc
not_level (truth b) c e = cc
not_level (number n) c e = cc
not_level (text s) c e = cc
not_level (bytes s) c e = cc
not_level nothing c e = cc
not_level (some v) c e = cc
not_level (left v) c e = cc
not_level (right v) c e = cc
not_level (both v w) c e = cc
not_level (list vs) c e = cc
not_level (set vs) c e = cc
not_level (table ps) c e = cc
not_level (big_table ps) c e = cc
not_level (lambda body recursive) c e = cc
not_level (operation n) c e = cc
not_level (ticket issuer kind content amount) c e = cc

order_exact : (v w : Val) → is_comparable w ≡ true → order v w ≡ Equal → v ≡ w
order_exact unit unit cw e = refl
order_exact (truth b) (truth c) cw e = ap truth (same_truth b c e)
order_exact (number m) (number n) cw e = ap number (exact_signed m n e)
order_exact (text s) (text t) cw e = ap text (exact_bytes s t e)
order_exact (bytes s) (bytes t) cw e = ap bytes (exact_bytes s t e)
order_exact nothing nothing cw e = refl
order_exact (some v) (some w) cw e = ap some (order_exact v w cw e)
order_exact (left v) (left w) cw e = ap left (order_exact v w cw e)
order_exact (right v) (right w) cw e = ap right (order_exact v w cw e)
order_exact (both v w) (both x y) cw e =
    let first : v ≡ x = order_exact v x (first_true _ _ cw) (first_equal _ _ e) in
    let second : w ≡ y = order_exact w y (then_true _ _ cw) (then_equal _ _ e) in
    ap (λ z. both z w) first ∙ ap (λ z. both x z) second
order_exact (list vs) w cw e = absurd (not_level w cw e)
order_exact (set vs) w cw e = absurd (not_level w cw e)
order_exact (table ps) w cw e = absurd (not_level w cw e)
order_exact (big_table ps) w cw e = absurd (not_level w cw e)
order_exact (lambda body recursive) w cw e = absurd (not_level w cw e)
order_exact (operation n) w cw e = absurd (not_level w cw e)
order_exact (ticket issuer kind content amount) w cw e = absurd (not_level w cw e)
order_exact v w cw e = absurd cc

kind_exact : (a b : Kind) → kind_order a b ≡ Equal → a ≡ b
kind_exact a b e = texts_tell_types a b (exact_bytes (printed (node_of a)) (printed (node_of b)) e)

identity_exact : (i j : Identity) → is_comparable j.content ≡ true → identity_order i j ≡ Equal → i ≡ j
identity_exact i j c e =
    let rest = then_equal _ _ e in
    let issuer : i.issuer ≡ j.issuer = exact_bytes i.issuer j.issuer (first_equal _ _ e) in
    let kind : i.kind ≡ j.kind = kind_exact i.kind j.kind (first_equal _ _ rest) in
    let content : i.content ≡ j.content = order_exact i.content j.content c (then_equal _ _ rest) in
    λ k. record { issuer = issuer k; kind = kind k; content = content k }

pub all_exact : (es fs : List (Identity × ℤ)) → AllByRecursion (λ f. is_comparable f.0.content ≡ true) fs → AreAlike identity_order es fs → es ≡ fs
all_exact [] [] c h = refl
all_exact [] (f ∷ fs) c h = absurd h
all_exact (e ∷ es) [] c h = absurd h
all_exact (e ∷ es) (f ∷ fs) c h =
    let key : e.0 ≡ f.0 = identity_exact e.0 f.0 c.0 h.0 in
    let rest = all_exact es fs c.1 h.2 in
    λ k. (key k, h.1 k) ∷ rest k
