-- The values that bytes pack (Michelson reference, "UNPACK").
use Rattle.std.specs.Prelude.{◌≡◌, ℕ, Bool, List, Option, Result, is_none, option_map}
use Rattle.rules_text.specs.nodes.Tree.{Tree}
use Rattle.rules_text.specs.binary.Reading.{Fault}
use Rattle.rules_data.specs.types.Kind.{Kind}
use Rattle.rules_data.specs.values.Literals.{body, read}
use Rattle.rules_code.specs.typing.Literals.{lambda_fault}
use Rattle.rules_code.specs.steps.Packing.{Trial, tried, of_decoded, unpacked}
use Rattle.mich_term.specs.ValueView.{val}
use Rattle.mich_term.specs.declared.value.Value.{Value}

-- the bodies of lambdas pass this test where they are typed; of contracts that are named nothing is asked, since no literal of a pushable
-- type names one
abbrev pub TriesBodies : Trial → Type 0
TriesBodies passes = (location : ℕ) (a r : Kind) (recursive : Bool) (t : Tree) → passes (body location a r recursive t) ≡ is_none (lambda_fault a r recursive t)

-- what a node is as a literal of a type whose bodies are tried, and what a node that was decoded is
abbrev pub IsTried : Kind → Tree → Option Value → Type 0
IsTried a t o = (passes : Trial) → TriesBodies passes → tried passes (read a 0 t) ≡ option_map val o

abbrev pub IsDecoded : Kind → Result Tree Fault → Option Value → Type 0
IsDecoded a r o = (passes : Trial) → TriesBodies passes → of_decoded passes a r ≡ option_map val o

-- the value that bytes pack, or that they pack none
abbrev pub IsUnpacked : Kind → List ℕ → Option Value → Type 0
IsUnpacked a b o = (passes : Trial) → TriesBodies passes → unpacked passes a b ≡ option_map val o
