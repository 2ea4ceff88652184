use Rattle.std.proofs.Common.{ℕ, length, refl, sym, subst}
use Rattle.std.specs.declared.option.Option.{Option}
use Rattle.rules_files.specs.commands.Snapshots.{reached_by}
use Rattle.mich_group.specs.declared.course.course.Course.{Course}
use Rattle.mich_replay.specs.Reaching.{IsSeenAs}
use Rattle.mich_replay.specs.Steps.{FollowsIf}
use Rattle.mich_replay.specs.declared.outcome.FileFault.TheVariants as faults
use Rattle.mich_replay.specs.declared.snapshotting.Reached.TheVariants as reached
use Rattle.mich_replay.proofs.Reached.{ends_reached, seen_nothing, seen_state}
use Rattle.mich_replay.proofs.snapshotting.state_reached.Goals as goal

pub returns-in-Some : goal.returns-in-Some
returns-in-Some c = λ file receipts r size h end.
    let follows = subst (λ (o : Option Course). FollowsIf o h.plain) c.in-Some.is h.stands.follows in (
      reached_by (length file) h.statements h.plain,
      seen_state h.statements h.plain (length file) c.in-Some.course _ follows refl refl refl h.marks.costs_stood h.marks.started,
      ends_reached file receipts r c.args.progress h end,
    )

pub returns-in-None : goal.returns-in-None
returns-in-None c = λ file receipts r size h end.
    let follows = subst (λ (o : Option Course). FollowsIf o h.plain) c.in-None.is h.stands.follows in (
      reached_by (length file) h.statements h.plain,
      subst (λ (n : ℕ). IsSeenAs (reached_by (length file) h.statements h.plain) (reached.Refused faults.BadOrder n)) (sym size)
          (seen_nothing h.statements h.plain (length file) faults.BadOrder follows refl),
      ends_reached file receipts r c.args.progress h end,
    )
