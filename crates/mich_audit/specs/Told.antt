-- What nodes tell.
use Rattle.std.specs.Prelude.{◌≡◌, ◌++◌, ℕ, Bool, true, false, List, [], ◌∷◌, Some, None}
use Rattle.std.specs.declared.option.Option.{Option}
use Rattle.rules_text.specs.nodes.Tree.{Tree, int, str, bytes, prim, seq}
use Rattle.rules_audit.specs.Fields.{is_issuer, only_if, Part}

-- anything else than an application of a name without annotations
abbrev pub IsNoPlain : Tree → Type 0
IsNoPlain (prim name [] ts) = ⊥
IsNoPlain (prim name (a ∷ others) ts) = Unit {0}
IsNoPlain (int n) = Unit {0}
IsNoPlain (str s) = Unit {0}
IsNoPlain (bytes b) = Unit {0}
IsNoPlain (seq ts) = Unit {0}

-- the bytes of a place
abbrev pub issuer_of : Tree → Option (List ℕ)
issuer_of (bytes b) = only_if (is_issuer b) b
issuer_of t = None

-- what is told was put behind the parts, where all has its form
abbrev pub Tells : Option (List Part) → List Part → List Part → Bool → Type 0
Tells (Some parts) old new told = (told ≡ true) × (new ≡ old ++ parts)
Tells None old new told = told ≡ false

-- nothing is told of tickets where all has its form
abbrev pub TellsNothing : Option (List Part) → Bool → Type 0
TellsNothing (Some parts) told = (told ≡ true) × (parts ≡ [])
TellsNothing None told = told ≡ false
