-- Types by their codes.
use Rattle.std.specs.Prelude.{◌≡◌, ℕ, List, Option, Some, None, option_and_then}
use Rattle.std.specs.Borrow.{Bor}
use Rattle.std.specs.Option.{option_map}
use Rattle.rules_data.specs.types.Kind.{Kind}
use Rattle.rules_data.specs.types.Kind as k
use Rattle.rules_data.specs.types.Reading.{Former}
use Rattle.rules_files.specs.snapshots.Reading.{kind_by, kind_within, content_nodes}
use Rattle.mich_base.specs.TypeView.{kind}
use Rattle.mich_base.specs.declared.ty.Ty.{Ty}
use Rattle.mich_saved.specs.declared.types.Shape.{Shape}
use Rattle.mich_saved.specs.declared.types.Shape.TheVariants as s
use Rattle.mich_saved.specs.declared.types.Joint.{Joint}
use Rattle.mich_saved.specs.declared.types.Joint.TheVariants as j

abbrev pub join : Joint → Kind → Kind → Kind
join j.Or = k.or
join j.Pair = k.pair

abbrev pub made_option : (List ℕ → Option (Kind × List ℕ)) → List ℕ → Option (Kind × List ℕ)
made_option next bs = option_map (λ a. (k.option a.0, a.1)) (next bs)

abbrev pub made_two : Joint → (List ℕ → Option (Kind × List ℕ)) → List ℕ → Option (Kind × List ℕ)
made_two joint next bs = option_and_then (λ a. option_map (λ b. (join joint a.0 b.0, b.1)) (next a.1)) (next bs)

-- what a shape makes of the types behind it
abbrev pub shaped : Shape → (List ℕ → Option (Kind × List ℕ)) → List ℕ → Option (Kind × List ℕ)
shaped (s.Leaf ty) next bs = Some (kind ty, bs)
shaped s.Option next bs = made_option next bs
shaped (s.Two joint) next bs = made_two joint next bs
shaped s.Other next bs = None

abbrev pub IsShape : Former → Shape → Type 0
IsShape f shape = (next : List ℕ → Option (Kind × List ℕ)) (bs : List ℕ) → kind_by f next bs ≡ shaped shape next bs

abbrev pub typed : Ty × Bor (List ℕ) → Kind × List ℕ
typed t = (kind t.0, t.1.now)

-- the type of a ticket's content at the head of these bytes
unfoldable pub content_kind : List ℕ → Option (Kind × List ℕ)
content_kind bs = kind_within content_nodes bs
