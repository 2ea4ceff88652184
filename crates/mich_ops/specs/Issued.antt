-- The operations that issued ones stand for.
use Rattle.std.specs.Prelude.{ℕ, List, map}
use Rattle.rules_code.specs.evaluation.Operations.{Operation, transfer, origination, event}
use Rattle.rules_code.specs.evaluation.Operations as rules
use Rattle.mich_base.specs.TypeView.{kind}
use Rattle.mich_forms.specs.Spelled.{address_bytes}
use Rattle.mich_term.specs.ValueView.{val}
use Rattle.mich_instr.specs.View.{script_node}
use Rattle.mich_ops.specs.declared.issued.Issued.{Issued}
use Rattle.mich_ops.specs.declared.issued.Issued.TheVariants as i

abbrev pub numbered : ℕ → Operation → rules.Issued
numbered n operation = record { number = n; operation = operation }

-- the values that it holds are seen by `val`: the entries that lie in its big maps
abbrev pub issued : Issued → rules.Issued
issued (i.Transfer number argument amount to) = numbered number (transfer (val argument) amount (address_bytes to))
issued (i.Origination number delegate amount script storage hash) =
    numbered number (origination delegate amount (script_node script) (val storage) hash)
issued (i.Event number tag ty value) = numbered number (event tag (kind ty) (val value))

abbrev pub all_issued : List Issued → List rules.Issued
all_issued is = map issued is
