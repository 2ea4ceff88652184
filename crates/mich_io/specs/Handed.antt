-- The pieces that a sink is handed, and pieces that are handed over until all of them is taken.
use Rattle.std.specs.Prelude.{◌≡◌, ℕ, List, [], ◌∷◌, ◌++◌, drop, flat_map, ⊤, Some, None, MatchResult}
use Rattle.std.specs.declared.option.Option.{Option}
use Rattle.std.specs.declared.result.Result.{Result}

-- all pieces, one after another
abbrev pub pieces_text : List (List ℕ) → List ℕ
pieces_text ps = flat_map (λ p. p) ps

-- known pieces grow by these
abbrev pub Hands : Option (List (List ℕ)) → Option (List (List ℕ)) → List (List ℕ) → Type 0
Hands None new more = ⊤
Hands (Some xs) None more = ⊥
Hands (Some xs) (Some ys) more = ys ≡ xs ++ more

-- a write that ends well hands over its piece, and another one nothing
abbrev pub WriteHands : {E : Type 0} → Option (List (List ℕ)) → Option (List (List ℕ)) → Result ℕ E → List ℕ → Type 0
WriteHands old new r piece = MatchResult r (λ _. Hands old new (piece ∷ [])) (λ _. Hands old new [])

-- these are a whole piece, and behind it what is left of it, as often as it isn't all taken; in the end so much is left
abbrev pub Leaves : List ℕ → List (List ℕ) → List ℕ → Type 0
Leaves whole [] left = left ≡ whole
Leaves whole (p ∷ ps) left = (p ≡ whole) × ((taken : ℕ) × Leaves (drop taken whole) ps left)

-- each of these is handed over, whole and then what is left of it, until nothing is
abbrev pub AreHanded : List (List ℕ) → List (List ℕ) → Type 0
AreHanded [] ps = ps ≡ []
AreHanded (x ∷ xs) ps = (first rest : List (List ℕ)) × (ps ≡ first ++ rest) × Leaves x first [] × AreHanded xs rest

-- a sink was handed all of these
abbrev pub HandsAll : Option (List (List ℕ)) → Option (List (List ℕ)) → List (List ℕ) → Type 0
HandsAll old new xs = (ps : List (List ℕ)) × Hands old new ps × AreHanded xs ps

-- or so far a front of that
abbrev pub HandsFront : Option (List (List ℕ)) → Option (List (List ℕ)) → List (List ℕ) → Type 0
HandsFront old new xs = (ps more : List (List ℕ)) × Hands old new ps × AreHanded xs (ps ++ more)
