-- The operations that issued ones stand for, however big maps are seen.
use Rattle.std.specs.Prelude.{List, ◌≡◌, ◌≤◌, ◌<◌, ◌+◌, ℕ, Option, MatchOption}
use Rattle.std.specs.List.{AllByRecursion}
use Rattle.rules_code.specs.evaluation.Operations.{transfer, origination, event}
use Rattle.rules_code.specs.evaluation.Operations as rules
use Rattle.mich_base.specs.TypeView.{kind}
use Rattle.mich_forms.specs.Spelled.{address_bytes}
use Rattle.mich_ops.specs.Issued.{numbered}
use Rattle.mich_instr.specs.Scripts.{IsTypedScript}
use Rattle.mich_instr.specs.View.{script_node}
use Rattle.mich_ops.specs.declared.issued.Issued.{Issued}
use Rattle.mich_ops.specs.declared.issued.Issued.TheVariants as i
use Rattle.mich_stack.specs.Views.{Sight, seen}
use Rattle.rules_text.specs.nodes.Limits.{operation_limit}

-- the script of an origination is typed
abbrev pub IsScripted : Issued → Type 0
IsScripted (i.Origination number delegate amount script storage hash) = IsTypedScript script
IsScripted _ = Unit {0}

-- those of new operations are typed where those of the old ones were
abbrev pub KeepsScripts : List Issued → List Issued → Type 0
KeepsScripts old new = AllByRecursion IsScripted old → AllByRecursion IsScripted new

abbrev pub issued_by : Sight → Issued → rules.Issued
issued_by big (i.Transfer number argument amount to) = numbered number (transfer (seen big argument) amount (address_bytes to))
issued_by big (i.Origination number delegate amount script storage hash) =
    numbered number (origination delegate amount (script_node script) (seen big storage) hash)
issued_by big (i.Event number tag ty value) = numbered number (event tag (kind ty) (seen big value))

-- one more operation is counted, from so many to so many, and this is its number; none where there are as many as there may be
abbrev pub IsCounted : Option ℕ → ℕ → ℕ → Type 0
IsCounted number old new = MatchOption number (operation_limit ≤ old) (λ n. (n ≡ old) × (n < operation_limit) × (new ≡ n + 1))
