-- What is made of the value of an argument, and how the parts of a pair are taken apart.
use Rattle.std.specs.Prelude.{◌≡◌, ◌<◌, List, [], ◌∷◌, length}
use Rattle.rules_data.specs.values.Val.{Val, some, left, right}
use Rattle.mich_base.specs.declared.node.Node.{Node}
use Rattle.mich_data.specs.declared.parts.Parts.{Parts}
use Rattle.mich_data.specs.declared.parts.Parts.TheVariants as parts
use Rattle.mich_data.specs.declared.parts.Wrapper.{Wrapper}
use Rattle.mich_data.specs.declared.parts.Wrapper.TheVariants as w

abbrev pub wrapped : Wrapper → Val → Val
wrapped w.Some x = some x
wrapped w.Left x = left x
wrapped w.Right x = right x

abbrev pub IsBelowTwo : List Node → Type 0
IsBelowTwo [] = Unit {0}
IsBelowTwo (n ∷ []) = Unit {0}
IsBelowTwo (n ∷ m ∷ ns) = ⊥

-- these are the parts
abbrev pub IsSplit : List Node → Parts → Type 0
IsSplit ns (parts.Two a b) = ns ≡ a.now ∷ b.now ∷ []
IsSplit ns (parts.More a rest) = (ns ≡ a.now ∷ rest.now) × (1 < length rest.now)
IsSplit ns parts.Fewer = IsBelowTwo ns
