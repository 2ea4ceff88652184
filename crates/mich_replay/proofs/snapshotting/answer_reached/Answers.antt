use Rattle.std.proofs.Common.{subst}
use Rattle.mich_replay.specs.Reaching.{IsSeenAs}
use Rattle.mich_replay.proofs.Reached.{done_state, refusal_answered, state_answered, status_told, rests}
use Rattle.mich_replay.proofs.snapshotting.answer_reached.Goals as goal

pub answer_state-requires : goal.answer_state-requires
answer_state-requires c = let q = c.requires in rests q.0 c.in-State.state (subst (IsSeenAs q.0) c.in-State.is q.1)

pub returns-in-State-clause-exact : goal.returns-in-State-clause-exact
returns-in-State-clause-exact c = λ plain seen. state_answered plain c.in-State.state c.answer_state.result (subst (IsSeenAs plain) c.in-State.is seen) c.answer_state.ensures

pub returns-in-Refused-clause-exact : goal.returns-in-Refused-clause-exact
returns-in-Refused-clause-exact c = λ plain seen.
    refusal_answered plain c.in-Refused.fault c.in-Refused.at c.file_fault_name.result.now c.refused.result (subst (IsSeenAs plain) c.in-Refused.is seen) c.file_fault_name.ensures c.refused.ensures

pub returns-in-State-clause-status : goal.returns-in-State-clause-status
returns-in-State-clause-status c =
    let q = c.requires in
    status_told q.0 c.answer_state.result (state_answered q.0 c.in-State.state c.answer_state.result (subst (IsSeenAs q.0) c.in-State.is q.1) c.answer_state.ensures)

pub returns-in-Refused-clause-status : goal.returns-in-Refused-clause-status
returns-in-Refused-clause-status c =
    let q = c.requires in
    status_told q.0 c.refused.result
    (refusal_answered q.0 c.in-Refused.fault c.in-Refused.at c.file_fault_name.result.now c.refused.result (subst (IsSeenAs q.0) c.in-Refused.is q.1) c.file_fault_name.ensures c.refused.ensures)

pub returns-in-State-clause-end : goal.returns-in-State-clause-end
returns-in-State-clause-end c =
    let q = c.requires in
    done_state q.0 c.args.reached.now c.answer_state.result q.1 (state_answered q.0 c.in-State.state c.answer_state.result (subst (IsSeenAs q.0) c.in-State.is q.1) c.answer_state.ensures)

pub returns-in-Refused-clause-end : goal.returns-in-Refused-clause-end
returns-in-Refused-clause-end c =
    let q = c.requires in
    done_state q.0 c.args.reached.now c.refused.result q.1
    (refusal_answered q.0 c.in-Refused.fault c.in-Refused.at c.file_fault_name.result.now c.refused.result (subst (IsSeenAs q.0) c.in-Refused.is q.1) c.file_fault_name.ensures c.refused.ensures)
