-- Values compare alike however big maps are seen.
use Rattle.std.proofs.Common.{◌≡◌, refl, sym, ap, ◌∙◌, subst}
use Rattle.std.specs.Ordering.{nat_cmp, ordering_then}
use Rattle.rules_data.specs.values.Val.{Val, Pairs, unit, truth, number, text, bytes, nothing, some, left, right, both, list, set, table, big_table, lambda, operation, ticket, no_val}
use Rattle.rules_data.specs.values.Order.{order, form}
use Rattle.mich_term.specs.ValueView.{val, value_step, big_step}
use Rattle.mich_term.specs.declared.value.Value.{Value, roll-Value, ind-Value, fold-roll-Value, map-Value}
use Rattle.mich_term.specs.declared.value.Value.TheOpen.{Value-F}
use Rattle.mich_term.specs.declared.value.Value.TheFolds.{fold-BigMap}
use Rattle.mich_term.specs.declared.value.BigMap.{BigMap}
use Rattle.mich_stack.specs.Views.{Sight, seen}

-- a value with one that isn't compared in place of each such part
abbrev bare : Val → Val
bare unit = unit
bare (truth b) = truth b
bare (number n) = number n
bare (text s) = text s
bare (bytes s) = bytes s
bare nothing = nothing
bare (some v) = some (bare v)
bare (left v) = left (bare v)
bare (right v) = right (bare v)
bare (both v w) = both (bare v) (bare w)
bare _ = set no_val

late : (w : Val) → nat_cmp 10 (form (bare w)) ≡ nat_cmp 10 (form w)
late unit = refl
late (truth b) = refl
late (number n) = refl
late (text s) = refl
late (bytes s) = refl
late nothing = refl
late (some v) = refl
late (left v) = refl
late (right v) = refl
late (both v w) = refl
late _ = refl

order_bare : (v w : Val) → order (bare v) (bare w) ≡ order v w
order_bare unit unit = refl
order_bare (truth b) (truth c) = refl
order_bare (number m) (number n) = refl
order_bare (text s) (text t) = refl
order_bare (bytes s) (bytes t) = refl
order_bare nothing nothing = refl
order_bare (some v) (some w) = order_bare v w
order_bare (left v) (left w) = order_bare v w
order_bare (right v) (right w) = order_bare v w
order_bare (both v w) (both x y) = λ i. ordering_then (order_bare v x i) (order_bare w y i)
order_bare (list vs) w = late w
order_bare (set vs) w = late w
order_bare (table ps) w = late w
order_bare (big_table ps) w = late w
order_bare (lambda t b) w = late w
order_bare (operation n) w = late w
order_bare (ticket i a v n) w = late w
order_bare _ _ = refl

module _ (big : Sight) where
  abbrev Same : Value → Type 0
  Same v = bare (seen big v) ≡ bare (val v)

  abbrev AnyBig : BigMap → Type 0
  AnyBig b = Unit {0}

  abbrev With : Type 0
  With = (x : Value) × Same x

  abbrev WithBig : Type 0
  WithBig = (x : BigMap) × AnyBig x

  abbrev lowered : Value-F With WithBig → Value-F Value BigMap
  lowered z = map-Value With WithBig Value BigMap (λ p. p.0) (λ p. p.0) z

  -- one level
  abbrev stepped : Sight → Value-F Value BigMap → Val
  stepped h l = value_step (map-Value Value BigMap Val Pairs (seen h) (fold-BigMap Val Pairs value_step h) l)

  by_level : (l : Value-F Value BigMap) → bare (stepped big l) ≡ bare (stepped big_step l) → Same (roll-Value l)
  by_level l same = ap bare (fold-roll-Value Val Pairs value_step big l) ∙ same ∙ ap bare (sym (fold-roll-Value Val Pairs value_step big_step l))

  level : (z : Value-F With WithBig) → Same (roll-Value (lowered z))
  level Value-F.Unit = by_level Value-F.Unit refl
  level (Value-F.Bool b) = by_level (Value-F.Bool b) refl
  level (Value-F.Number n) = by_level (Value-F.Number n) refl
  level (Value-F.Text s) = by_level (Value-F.Text s) refl
  level (Value-F.Bytes s) = by_level (Value-F.Bytes s) refl
  level Value-F.None = by_level Value-F.None refl
  level (Value-F.Some a) = by_level (Value-F.Some a.0) (ap some a.1)
  level (Value-F.Left a) = by_level (Value-F.Left a.0) (ap left a.1)
  level (Value-F.Right a) = by_level (Value-F.Right a.0) (ap right a.1)
  level (Value-F.Pair a b) = by_level (Value-F.Pair a.0 b.0) (λ i. both (a.1 i) (b.1 i))
  level (Value-F.List zs) = by_level (lowered (Value-F.List zs)) refl
  level (Value-F.Set ds) = by_level (Value-F.Set ds) refl
  level (Value-F.Map zs) = by_level (lowered (Value-F.Map zs)) refl
  level (Value-F.BigMap a) = by_level (Value-F.BigMap a.0) refl
  level (Value-F.Lambda n r) = by_level (Value-F.Lambda n r) refl
  level (Value-F.Operation n) = by_level (Value-F.Operation n) refl
  level (Value-F.Ticket t) = by_level (Value-F.Ticket t) refl

  bare_seen : (v : Value) → bare (seen big v) ≡ bare (val v)
  bare_seen = ind-Value Same AnyBig (λ x y is. subst (λ z. Same (roll-Value z)) is (level y)) (λ x y is. tt)

  pub order_seen : (v w : Value) → order (seen big v) (seen big w) ≡ order (val v) (val w)
  order_seen v w = sym (order_bare (seen big v) (seen big w)) ∙ (λ i. order (bare_seen v i) (bare_seen w i)) ∙ order_bare (val v) (val w)
