-- The locations of faults are those of nodes.
use Rattle.std.proofs.Common.{◌<◌, ◌^◌, ℕ, Bool, true, false, Option, Some, None, List, [], ◌∷◌, arith}
use Rattle.std.specs.Prelude.{if◌then◌else◌}
use Rattle.std.specs.List.{AllByRecursion}
use Rattle.rules_text.specs.nodes.Tree.{Tree, size}
use Rattle.rules_data.specs.types.Kind.{Kind}
use Rattle.rules_data.specs.values.Val.{Val}
use Rattle.rules_data.specs.values.Literals.{Literal, good, bad, Pending, body, claim, claims, read}
use Rattle.rules_code.specs.instructions.Arguments.{Found, found, fault}
use Rattle.rules_code.specs.typing.Typing.{shift}
use Rattle.rules_code.specs.typing.Literals.{checked, of_reading, fault_of_bodies}
use Rattle.rules_code.specs.typing.Nodes.{tree_type, script}
use Rattle.rules_code.specs.evaluation.Contracts.{is_contract_of}
use Rattle.rules_world.specs.world.World.{World, contract_at}
use Rattle.rules_world.specs.world.Arguments.{false_claim, unless_false, with_claims, literal_in}
use Rattle.laws_commands.proofs.written_lemmas.locations.Below.{FoundBelow}
use Rattle.laws_commands.proofs.written_lemmas.locations.LiteralsBelow.{PendingBelow, LiteralBelow, read_below}
use Rattle.laws_commands.proofs.written_lemmas.locations.TypingsBelow.{FaultBelow, shift_below, bodies_fault_below}
use Rattle.laws_commands.proofs.written_lemmas.locations.NodesBelow.{tree_below, script_below}

abbrev pub IsLocated : {A : Type 0} → Found A → Type 0
IsLocated x = FoundBelow (2 ^ 32) x

-- ---- literals

abbrev AllClaims : ℕ → List Pending → Type 0
AllClaims n ps = AllByRecursion (PendingBelow n) ps

claims_below : (n : ℕ) (ps : List Pending) → AllClaims n ps → AllClaims n (claims ps)
claims_below n [] h = tt
claims_below n (body at a b recursive t ∷ ps) h = claims_below n ps h.1
claims_below n (claim at b a ∷ ps) h = (h.0, claims_below n ps h.1)

false_below : (n : ℕ) (w : World) (ps : List Pending) → AllClaims n ps → FaultBelow n (false_claim w ps)
false_below n w [] h = tt
false_below n w (body at a b recursive t ∷ ps) h = false_below n w ps h.1
false_below n w (claim at b a ∷ ps) h = by (is_contract_of (contract_at w) a b) (false_below n w ps h.1)
  where
    by : (q : Bool) → FaultBelow n (false_claim w ps) → FaultBelow n (if q then false_claim w ps else Some at)
    by true r = r
    by false r = h.0

literal_below : (w : World) (a : Kind) (t : Tree) → FoundBelow (size t) (literal_in w a t)
literal_below w a t = by (read a 0 t) (read_below (size t) a 0 t (omega arith))
  where
    by_claims : (x : Val) (o : Option ℕ) → FaultBelow (size t) o → FoundBelow (size t) (unless_false o x)
    by_claims x (Some l) h = h
    by_claims x None h = tt

    by_bodies : (x : Val) (ps : List Pending) (o : Option ℕ) → FaultBelow (size t) o → AllClaims (size t) ps →
        FoundBelow (size t) (with_claims w (checked x ps o))
    by_bodies x ps (Some l) h g = h
    by_bodies x ps None h g = by_claims x (false_claim w (claims ps)) (false_below (size t) w (claims ps) (claims_below (size t) ps g))

    by : (l : Literal Val) → LiteralBelow (size t) l → FoundBelow (size t) (with_claims w (of_reading l))
    by (good x ps) h =
        by_bodies x ps (fault_of_bodies ps)
        (bodies_fault_below (size t) (λ l u c A. shift l (tree_type u c A))
        (λ at u room c A. shift_below at (size u) (size t) (tree_type u c A) room (tree_below u c A)) ps h) h
    by (bad l) h = h

located : {A : Type 0} (n : ℕ) (x : Found A) → n < 2 ^ 32 → FoundBelow n x → IsLocated x
located n (found x) small h = tt
located n (fault l) small h = omega (arith, small, h)

pub literal_located : (w : World) (a : Kind) (t : Tree) → size t < 2 ^ 32 → IsLocated (literal_in w a t)
literal_located w a t small = located (size t) (literal_in w a t) small (literal_below w a t)

pub script_located : (t : Tree) → size t < 2 ^ 32 → IsLocated (script t)
script_located t small = located (size t) (script t) small (script_below t)
