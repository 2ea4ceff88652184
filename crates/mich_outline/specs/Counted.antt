-- How many arguments there are, and what they are.
use Rattle.std.specs.Prelude.{Bool, true, false, List, [], ◌∷◌}
use Rattle.rules_text.specs.nodes.Tree.{Tree, str, seq}

abbrev pub is_sequence : Tree → Bool
is_sequence (seq ts) = true
is_sequence t = false

abbrev pub IsNotFour : {X : Type 0} → List X → Type 0
IsNotFour [] = Unit {0}
IsNotFour (x ∷ []) = Unit {0}
IsNotFour (x ∷ y ∷ []) = Unit {0}
IsNotFour (x ∷ y ∷ z ∷ []) = Unit {0}
IsNotFour (x ∷ y ∷ z ∷ w ∷ []) = ⊥
IsNotFour (x ∷ y ∷ z ∷ w ∷ v ∷ vs) = Unit {0}

abbrev pub IsNoText : Tree → Type 0
IsNoText (str s) = ⊥
IsNoText t = Unit {0}
