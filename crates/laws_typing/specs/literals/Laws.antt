-- Laws of literals with lambdas (Michelson reference, "lambda" and "PUSH"; Octez "Micheline", locations).
use Rattle.std.specs.Prelude.{◌≡◌, ◌≤◌, ◌<◌, ◌^◌, ℕ, ◌+◌, Bool, true, List, [], ◌∷◌, Some, None, codes, slice_get}
use Rattle.rules_text.specs.nodes.Tree.{Tree, prim, Trees, size, preorder}
use Rattle.rules_data.specs.types.Kind.{Kind}
use Rattle.rules_data.specs.values.Val.{Val}
use Rattle.rules_data.specs.values.Forms.{HasForm}
use Rattle.rules_data.specs.values.Tickets.{tickets}
use Rattle.rules_data.specs.values.Literals.{Pending, body, claim, good, read}
use Rattle.rules_code.specs.instructions.Context.{Context}
use Rattle.rules_code.specs.instructions.Control.{push_of}
use Rattle.rules_code.specs.typing.Typing.{goes, on_found}
use Rattle.rules_code.specs.typing.Nodes.{tree_type}
use Rattle.rules_code.specs.typing.Literals.{fault_of_bodies, of_reading}
use Rattle.rules_code.specs.typing.Fits.{Known, Fits}

-- a body is the node at its location, where the nodes in pre-order begin at a location
abbrev pub StandsIn : ℕ → List Tree → Pending → Type 0
StandsIn at ns (body l a r recursive t) = (i : ℕ) × (l ≡ at + i) × (slice_get ns i ≡ Some t)
StandsIn at ns (claim l b a) = Unit {0}

abbrev pub AllStandIn : ℕ → List Tree → List Pending → Type 0
AllStandIn at ns [] = Unit {0}
AllStandIn at ns (p ∷ ps) = StandsIn at ns p × AllStandIn at ns ps

-- of what is read at a location each body stands at its own
abbrev pub BodiesStand : Type 0
BodiesStand = (a : Kind) (at : ℕ) (t : Tree) (x : Val) (ps : List Pending) → read a at t ≡ good x ps → AllStandIn at (preorder t) ps

-- bodies of at most so many nodes
abbrev pub AllAtMost : ℕ → List Pending → Type 0
AllAtMost n [] = Unit {0}
AllAtMost n (body l a r recursive t ∷ ps) = (size t ≤ n) × AllAtMost n ps
AllAtMost n (claim l b a ∷ ps) = AllAtMost n ps

-- a body is no larger than what is read
abbrev pub BodiesAreWithin : Type 0
BodiesAreWithin = (a : Kind) (at : ℕ) (t : Tree) (x : Val) (ps : List Pending) → read a at t ≡ good x ps → AllAtMost (size t) ps

-- PUSH reads its literal, and its bodies are tried as those of every literal
abbrev pub PushedAsLiterals : Type 0
PushedAsLiterals = (annots : List (List ℕ)) (ts : Trees) (c : Context) (A : List Kind) →
    tree_type (prim (codes "PUSH") annots ts) c A
    ≡ on_found (push_of ts) (λ p. on_found (of_reading (read p.kind p.location p.literal)) (λ x. goes (p.kind ∷ A)))

-- the contracts that a literal names are there
abbrev pub AllClaimed : Known → List Pending → Type 0
AllClaimed w [] = Unit {0}
AllClaimed w (claim l b a ∷ ps) = w.is_contract b a × AllClaimed w ps
AllClaimed w (body l a r recursive t ∷ ps) = AllClaimed w ps

-- what two tests say of addresses and operations
abbrev pub told_by : (List ℕ → Kind → Bool) → (ℕ → Bool) → Known
told_by is_contract is_issued = record { is_contract = λ b a. is_contract b a ≡ true; is_issued = λ n. is_issued n ≡ true }

-- a literal that is read, whose bodies have no fault and whose contracts are there, fits its type
abbrev pub LiteralsFit : Type 0
LiteralsFit = (is_contract : List ℕ → Kind → Bool) (is_issued : ℕ → Bool) (a : Kind) (at : ℕ) (t : Tree) (x : Val) (ps : List Pending) →
    read a at t ≡ good x ps → fault_of_bodies ps ≡ None → AllClaimed (told_by is_contract is_issued) ps → size t < 2 ^ 32 →
    Fits (told_by is_contract is_issued) a x

-- a literal that is read has the form of its type, whatever is still to be tried of it
abbrev pub LiteralsHaveForm : Type 0
LiteralsHaveForm = (a : Kind) (at : ℕ) (t : Tree) (x : Val) (ps : List Pending) → read a at t ≡ good x ps → size t < 2 ^ 32 → HasForm a x

-- a literal that is read holds no ticket
abbrev pub LiteralsHoldNoTicket : Type 0
LiteralsHoldNoTicket = (a : Kind) (at : ℕ) (t : Tree) (x : Val) (ps : List Pending) → read a at t ≡ good x ps → tickets x ≡ []
