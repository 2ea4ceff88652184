-- The walk over a sequence as an instruction.
use Rattle.std.proofs.Common.{◌≡◌, ℕ, ◌+◌, Bool, true, false, ◌&&◌, cond, Option, Some, None, List, refl, sym, ap, ◌∙◌}
use Rattle.std.specs.Prelude.{option_and_then}
use Rattle.rules_text.specs.nodes.Tree.{Trees, seq}
use Rattle.rules_data.specs.types.Kind.{Kind}
use Rattle.rules_code.specs.instructions.Context.{Context}
use Rattle.rules_code.specs.instructions.Same.{same_kinds}
use Rattle.rules_code.specs.typing.Nodes.{trees_type}
use Rattle.rules_code.specs.typing.Typing.{Typing, goes, fails, bad, shift}
use Rattle.rules_code.specs.certificates.Derivation.{Entry, trees_entries}
use Rattle.mich_cert.specs.Walk.{past, told, Ended, ended, Confirmed, block_of, leading, step_of, joined, sequence_walk}
use Rattle.mich_cert.proofs.Branches.{nowhere}
use Rattle.mich_cert.proofs.Walk.{from, block_from}

abbrev ends_there : Ended → Option (List Entry)
ends_there u = cond (joined u.ends None (told u.rest)) (Some u.rest) None

begun : (A : List Kind) (x : Option Confirmed) →
    option_and_then (λ x. cond (same_kinds A x.begins && joined x.ends None (told x.rest)) (Some x.rest) None) x ≡ option_and_then ends_there (from A x)
begun A None = refl
begun A (Some x) = by (same_kinds A x.begins)
  where
    by : (q : Bool) →
        cond (q && joined x.ends None (told x.rest)) (Some x.rest) None
        ≡ option_and_then ends_there (cond q (Some record { ends = x.ends; rest = x.rest }) None)
    by true = refl
    by false = refl

leads_there : (k : ℕ) (T : Typing) (o : Option (List Entry)) → option_and_then ends_there (ended T o) ≡ option_and_then (leading (shift k T)) o
leads_there k (goes B) None = refl
leads_there k (goes B) (Some es) = refl
leads_there k fails None = refl
leads_there k fails (Some es) = refl
leads_there k (bad l) o = sym (nowhere (k + l) o)

pub sequence_walked : (ts : Trees) (at : ℕ) (c : Context) (A : List Kind) (es : List Entry) → sequence_walk ts at c A es ≡ step_of (seq ts) at c A es
sequence_walked ts at c A es =
    begun A (block_of ts at c es) ∙ ap (option_and_then ends_there) (block_from ts at c A es)
    ∙ leads_there 1 (trees_type ts c A) (past (trees_entries ts at (at + 1) c A) es)
