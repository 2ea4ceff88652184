-- Tickets that are alike have one identity.
use Rattle.std.proofs.Common.{◌≡◌, Bool, true, false, ◌&&◌, refl, ap, ◌∙◌}
use Rattle.std.specs.declared.cmp.Ordering.{Ordering}
use Rattle.std.specs.declared.cmp.Ordering.TheVariants.{Less, Equal, Greater}
use Rattle.std.specs.Ordering.{nat_cmp, is_eq, ordering_then}
use Rattle.std.specs.Str.{bytes_eq}
use Rattle.std.proofs.lemmas.Bool.{and_parts, and_from}
use Rattle.std.proofs.lemmas.Cmp.{tied_itself}
use Rattle.std.proofs.lemmas.Map.Lookups.{exact_signed, exact_bytes}
use Rattle.std.proofs.lemmas.Slice.Eq.{bytes_eq-Decides}
use Rattle.rules_data.specs.types.Kind.{Kind}
use Rattle.rules_data.specs.types.Kind as k
use Rattle.rules_data.specs.types.Attributes.{comparable}
use Rattle.rules_data.specs.declared.types.Simple.{Simple}
use Rattle.rules_data.specs.declared.types.Simple.TheVariants as s
use Rattle.rules_code.specs.instructions.Same.{same_kind}
use Rattle.rules_data.specs.values.Val.{Val, unit, truth, number, text, bytes, nothing, some, left, right, both, list, set, table, big_table, lambda, operation, ticket, is_comparable}
use Rattle.rules_data.specs.values.Order.{order, form, truth_order}
use Rattle.rules_data.specs.values.Forms.{has_simple_form}
use Rattle.rules_data.specs.values.Tickets.{Identity, Held}
use Rattle.rules_code.specs.steps.Changes.{identity_of, is_alike}
use Rattle.rules_code.specs.typing.Fits.{Known, Fits}
use Rattle.laws_data.proofs.types_lemmas.ForCallers.{same_kind_true, same_kind_refl}
use Rattle.laws_data.proofs.values_lemmas.ForCallers.{order_lawful}

same_truth : (b c : Bool) → truth_order b c ≡ Equal → b ≡ c
same_truth false false e = refl
same_truth false true e = absurd cc
same_truth true false e = absurd cc
same_truth true true e = refl

first_equal : (o p : Ordering) → ordering_then o p ≡ Equal → o ≡ Equal
first_equal Less p e = absurd cc
first_equal Equal p e = refl
first_equal Greater p e = absurd cc

then_equal : (o p : Ordering) → ordering_then o p ≡ Equal → p ≡ Equal
then_equal Less p e = absurd cc
then_equal Equal p e = e
then_equal Greater p e = absurd cc

late : (w : Val) → is_comparable w ≡ true → nat_cmp 10 (form w) ≡ Equal → ⊥
late unit c e = cc
late (truth b) c e = cc
late (number n) c e = cc
late (text t) c e = cc
late (bytes t) c e = cc
late nothing c e = cc
late (some w) c e = cc
late (left w) c e = cc
late (right w) c e = cc
late (both x y) c e = cc
late _ c e = cc

-- what is equal in the order to a comparable value is that value
pub equal : (v w : Val) → is_comparable w ≡ true → order v w ≡ Equal → v ≡ w
equal unit unit c e = refl
equal (truth b) (truth d) c e = ap truth (same_truth b d e)
equal (number m) (number n) c e = ap number (exact_signed m n e)
equal (text x) (text y) c e = ap text (exact_bytes x y e)
equal (bytes x) (bytes y) c e = ap bytes (exact_bytes x y e)
equal nothing nothing c e = refl
equal (some v) (some w) c e = ap some (equal v w c e)
equal (left v) (left w) c e = ap left (equal v w c e)
equal (right v) (right w) c e = ap right (equal v w c e)
equal (both v w) (both x y) c e =
    let cs : (is_comparable x ≡ true) × (is_comparable y ≡ true) = and_parts (is_comparable x) (is_comparable y) c in
    let first : v ≡ x = equal v x cs.0 (first_equal (order v x) (order w y) e) in
    let second : w ≡ y = equal w y cs.1 (then_equal (order v x) (order w y) e) in
    ap (λ z. both z w) first ∙ ap (both x) second
equal (list vs) w c e = absurd (late w c e)
equal (set vs) w c e = absurd (late w c e)
equal (table ps) w c e = absurd (late w c e)
equal (big_table ps) w c e = absurd (late w c e)
equal (lambda t b) w c e = absurd (late w c e)
equal (operation n) w c e = absurd (late w c e)
equal (ticket i t v n) w c e = absurd (late w c e)
equal _ _ c e = absurd cc

is_equal : (o : Ordering) → is_eq o ≡ true → o ≡ Equal
is_equal Less h = absurd cc
is_equal Equal h = refl
is_equal Greater h = absurd cc

pub alike_is : (id : Identity) (t : Held) → is_comparable t.content ≡ true → is_alike id (identity_of t) ≡ true →
    id ≡ identity_of t
alike_is id t c h =
    let hs : ((bytes_eq id.issuer t.issuer && same_kind id.kind t.kind) ≡ true) × (is_eq (order id.content t.content) ≡ true) =
    and_parts (bytes_eq id.issuer t.issuer && same_kind id.kind t.kind) (is_eq (order id.content t.content)) h in
    let gs : (bytes_eq id.issuer t.issuer ≡ true) × (same_kind id.kind t.kind ≡ true) = and_parts (bytes_eq id.issuer t.issuer)
    (same_kind id.kind t.kind) hs.0 in
    let a : id.issuer ≡ t.issuer = (bytes_eq-Decides id.issuer t.issuer).0 gs.0 in
    let b : id.kind ≡ t.kind = same_kind_true id.kind t.kind gs.1 in
    let d : id.content ≡ t.content = equal id.content t.content c (is_equal (order id.content t.content) hs.1) in
    ap (λ x. record { issuer = x; kind = id.kind; content = id.content }) a
    ∙ ap (λ x. record { issuer = t.issuer; kind = x; content = id.content }) b
    ∙ ap (λ x. record { issuer = t.issuer; kind = t.kind; content = x }) d

pub alike_itself : (id : Identity) → is_alike id id ≡ true
alike_itself id =
    and_from (bytes_eq id.issuer id.issuer && same_kind id.kind id.kind) (is_eq (order id.content id.content))
    (and_from (bytes_eq id.issuer id.issuer) (same_kind id.kind id.kind) ((bytes_eq-Decides id.issuer id.issuer).1 refl)
    (same_kind_refl id.kind))
    (ap is_eq (tied_itself order_lawful id.content))

-- ---- values of comparable types

simple_comparable : (u : Simple) (x : Val) → has_simple_form u x ≡ true → is_comparable x ≡ true
simple_comparable s.Unit unit h = refl
simple_comparable s.Bool (truth b) h = refl
simple_comparable s.Int (number n) h = refl
simple_comparable s.Timestamp (number n) h = refl
simple_comparable s.Nat (number n) h = refl
simple_comparable s.Mutez (number n) h = refl
simple_comparable s.String (text b) h = refl
simple_comparable s.Bytes (bytes b) h = refl
simple_comparable s.KeyHash (bytes b) h = refl
simple_comparable s.Key (bytes b) h = refl
simple_comparable s.Signature (bytes b) h = refl
simple_comparable s.ChainId (bytes b) h = refl
simple_comparable s.Address (bytes b) h = refl
simple_comparable u x h = absurd cc

pub comparable_value : (w : Known) (a : Kind) (x : Val) → comparable a ≡ true → Fits w a x → is_comparable x ≡ true
comparable_value w (k.simple u) x e h = simple_comparable u x h
comparable_value w (k.option a) nothing e h = refl
comparable_value w (k.option a) (some x) e h = comparable_value w a x e h
comparable_value w (k.or a b) (left x) e h = comparable_value w a x (and_parts (comparable a) (comparable b) e).0 h
comparable_value w (k.or a b) (right x) e h = comparable_value w b x (and_parts (comparable a) (comparable b) e).1 h
comparable_value w (k.pair a b) (both x y) e h =
    let f = and_parts (comparable a) (comparable b) e in
    and_from (is_comparable x) (is_comparable y) (comparable_value w a x f.0 h.0) (comparable_value w b y f.1 h.1)
comparable_value w (k.list a) x e h = absurd cc
comparable_value w (k.set a) x e h = absurd cc
comparable_value w (k.map a b) x e h = absurd cc
comparable_value w (k.big_map a b) x e h = absurd cc
comparable_value w (k.lambda a b) x e h = absurd cc
comparable_value w (k.contract a) x e h = absurd cc
comparable_value w k.operation x e h = absurd cc
comparable_value w (k.ticket a) x e h = absurd cc
comparable_value w a x e h = absurd h
