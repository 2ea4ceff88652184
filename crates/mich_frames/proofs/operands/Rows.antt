-- Where an instruction without bodies comes first, the stack suits it, and its tickets may be burnt.
use Rattle.std.proofs.Common.{ℕ, List}
use Rattle.std.specs.List.{AllByRecursion, flat_map}
use Rattle.rules_text.specs.nodes.Tree.{Tree}
use Rattle.rules_data.specs.types.Kind.{Kind}
use Rattle.rules_code.specs.instructions.Straight.{Straight}
use Rattle.rules_data.specs.values.Val.{Val}
use Rattle.rules_data.specs.values.Tickets.{tickets}
use Rattle.rules_code.specs.evaluation.Operations.{Tally}
use Rattle.rules_code.specs.evaluation.Outcome.{Outcome}
use Rattle.laws_code.specs.stacks.Sound.{seen}
use Rattle.mich_instr.specs.Code as made
use Rattle.mich_tickets.specs.Limits.{IsPositive}
use Rattle.mich_step.specs.Rule.{Suits}
use Rattle.mich_frames.specs.Around.{Around, at}
use Rattle.mich_frames.specs.Frames.{Frame}
use Rattle.mich_frames.specs.Stands.{MeetsAt}
use Rattle.mich_frames.proofs.ForCallers.{sound_here, row_taken}
use Rattle.mich_frames.proofs.operands.Suiting.{suits}
use Rattle.mich_frames.proofs.operands.Tickets.{tickets_positive}

module _ {fs : List Frame} {u : Around} {m : Tally} {d : ℕ} {Z : List Kind} {o : Outcome} {r : Straight} {app : Tree} {V : List Val} (h : MeetsAt (made.straight r app) fs u V m d Z o) where
  pub row_suits : Suits r V
  row_suits = suits (seen (at u h.context)) m.issued m.changes r h.types h.next V (row_taken h.fine h.holds.types) (sound_here h.holds)

  pub row_positive : AllByRecursion IsPositive (flat_map tickets V)
  row_positive = tickets_positive h.holds
