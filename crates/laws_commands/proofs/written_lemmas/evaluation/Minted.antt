-- What TICKET mints has a type that a ticket may have, and a content of it.
use Rattle.std.proofs.Common.{◌≡◌, ◌≤◌, ◌+◌, ℕ, Bool, true, false, ◌&&◌, List, [], ◌∷◌, Some, refl, sym, subst, arith}
use Rattle.std.proofs.lemmas.Bool.{and_parts, and_from}
use Rattle.rules_text.specs.nodes.Limits.{type_limit}
use Rattle.rules_data.specs.types.Kind.{Kind, nodes}
use Rattle.rules_data.specs.types.Kind as k
use Rattle.rules_data.specs.declared.types.Simple.TheVariants as s
use Rattle.rules_data.specs.types.Attributes.{comparable}
use Rattle.rules_data.specs.values.Val.{Val}
use Rattle.rules_data.specs.values.Val as v
use Rattle.rules_code.specs.instructions.Change.{Change, after, where_true, makes}
use Rattle.rules_code.specs.instructions.Same.{same_kind}
use Rattle.rules_code.specs.instructions.Straight.{on_tickets}
use Rattle.rules_code.specs.instructions.Straight as i
use Rattle.rules_code.specs.typing.Fits.{Known, Fits}
use Rattle.rules_files.specs.snapshots.Rules.{is_stored}
use Rattle.laws_data.proofs.types_lemmas.ForCallers.{same_kind_true}
use Rattle.laws_code.specs.stacks.Sound.{AllTypes}
use Rattle.laws_code.proofs.typed.ForCallers.{Taken}

module _ (w : Known) where
  -- a value that fits a type that can be compared passes the test on stored values
  pub compared_stored : (a : Kind) (x : Val) → comparable a ≡ true → Fits w a x → is_stored a x ≡ true
  compared_stored (k.simple u) x c h = h
  compared_stored (k.option a) v.nothing c h = refl
  compared_stored (k.option a) (v.some x) c h = compared_stored a x c h
  compared_stored (k.or a b) (v.left x) c h = compared_stored a x (and_parts (comparable a) (comparable b) c).0 h
  compared_stored (k.or a b) (v.right x) c h = compared_stored b x (and_parts (comparable a) (comparable b) c).1 h
  compared_stored (k.pair a b) (v.both x y) c h =
      let cs = and_parts (comparable a) (comparable b) c in
      and_from (is_stored a x) (is_stored b y) (compared_stored a x cs.0 h.0) (compared_stored b y cs.1 h.1)
  compared_stored (k.list a) x c h = absurd cc
  compared_stored (k.set a) x c h = absurd cc
  compared_stored (k.map a b) x c h = absurd cc
  compared_stored (k.big_map a b) x c h = absurd cc
  compared_stored (k.lambda a b) x c h = absurd cc
  compared_stored (k.contract a) x c h = absurd cc
  compared_stored k.operation x c h = absurd cc
  compared_stored (k.ticket a) x c h = absurd cc
  compared_stored a x c h = absurd h

-- ---- the types of TICKET

abbrev IsContent : Kind → Kind → Type 0
IsContent c a = (c ≡ a) × (comparable a ≡ true) × (nodes a + 1 ≤ type_limit)

less : (n : ℕ) → n + 1 + 1 ≤ type_limit → n + 1 ≤ type_limit
less n h = omega (arith, h)

abbrev made : Kind → List Kind → Change
made a A = record { made = k.option (k.ticket a) ∷ []; kept = A }

of_made : (c a : Kind) (A B : List Kind) (d : Change) (b : Bool) → (same_kind c a && comparable a) ≡ b →
    where_true b (makes (k.option (k.ticket a)) A) ≡ Some d → B ≡ after d → AllTypes B → IsContent c a
of_made c a A B d true e f g ts =
    let same : made a A ≡ d = cc in
    let all : AllTypes (after (made a A)) = subst (λ (x : Change). AllTypes (after x)) (sym same) (subst AllTypes g ts) in
    let cs = and_parts (same_kind c a) (comparable a) e in
    (same_kind_true c a cs.0, cs.1, less (nodes a) all.0.1)
of_made c a A B d false e f g ts = absurd cc

pub content_is : (c a : Kind) (A B : List Kind) → Taken (on_tickets (i.ticket a)) (c ∷ A) B → IsContent c a
content_is c a (k.simple s.Nat ∷ A) B t = of_made c a A B t.effect (same_kind c a && comparable a) refl t.changes t.stack t.types
content_is c a A B t = absurd (let e = t.changes in cc)
