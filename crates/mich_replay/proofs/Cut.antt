-- What is answered to the front of a file that is longer than it may be.
use Rattle.std.proofs.Common.{◌≡◌, ℕ, ◌≤◌, ◌<◌, inl, inr, List, ◌++◌, length, Option, Some, None, Result, Ok, Err, refl, sym, ap, ◌∙◌, subst, arith}
use Rattle.std.proofs.lemmas.List.{append-nil}
use Rattle.std.specs.Prelude.{IfOk, IsSome}
use Rattle.rules_text.specs.nodes.Limits.{file_limit}
use Rattle.rules_files.specs.commands.Answers.{Answer, status_of}
use Rattle.rules_files.specs.commands.Codec.{encode_node, decode_node}
use Rattle.rules_files.specs.commands.Packs.{pack_node}
use Rattle.rules_files.specs.commands.Scripts.{check_statements}
use Rattle.rules_files.specs.commands.Certificates.{certify_statements}
use Rattle.rules_files.specs.commands.Commands.{Verb, Replaying, Checking, Encoding, Decoding, Packing, Certifying, Verifying, Auditing, Snapshotting, Command, OnFile, IsVerbAnswer, IsTold, IsAnswer}
use Rattle.rules_files.specs.commands.Replay.{Ending, State, RefusedAt}
use Rattle.mich_text.proofs.ForCallers.{split}
use Rattle.mich_base.specs.declared.memory.Memory.{Memory}
use Rattle.mich_replay.specs.Fronts.{IsRest, IsReadOf}
use Rattle.mich_answers.specs.View.{answer_seen}
use Rattle.mich_answers.specs.declared.answer.Answer.{Answer as Reply}
use Rattle.mich_replay.proofs.Audited.{audit_on, audit_refused}
use Rattle.mich_replay.proofs.Fronts.{replay_on, reached_on, codec_on, text_on, verify_on, replay_refused, reached_undone, codec_refused, text_refused, verify_refused}

-- ---- what was read

-- ---- what is answered

verb_on : (verb : Verb) (file more : List ℕ) (answer : Answer) → file_limit < length file → IsVerbAnswer verb file answer → IsVerbAnswer verb (file ++ more) answer
verb_on Replaying file more answer past (done, r, e) = (done, replay_on file more past done r, e)
verb_on Checking file more answer past p = text_on file more past check_statements answer p
verb_on Encoding file more answer past p = codec_on file more past encode_node answer p
verb_on Decoding file more answer past p = codec_on file more past decode_node answer p
verb_on Packing file more answer past p = codec_on file more past pack_node answer p
verb_on Certifying file more answer past p = text_on file more past certify_statements answer p
verb_on Verifying file more answer past p = verify_on file more past answer p
verb_on Auditing file more answer past p = audit_on file more past answer p
verb_on Snapshotting file more answer past (x, r, e) = (x, reached_on file more past x r, e)

pub verb_cut : (verb : Verb) (file more : List ℕ) (answer : Answer) → IsRest file more → IsVerbAnswer verb file answer → IsVerbAnswer verb (file ++ more) answer
verb_cut verb file more answer rest p = elim (split (length file) file_limit) [
  | inl short ↦ subst (λ (l : List ℕ). IsVerbAnswer verb (file ++ l) answer) (sym (rest short)) (subst (λ (l : List ℕ). IsVerbAnswer verb l answer) (sym (append-nil file)) p)
  | inr past ↦ verb_on verb file more answer past p
]

not_done : (verb : Verb) (file : List ℕ) (answer : Answer) → file_limit < length file → IsVerbAnswer verb file answer → answer.status ≡ 0 → ⊥
not_done Replaying file answer past (done, r, e) zero = by done.ending refl where
  by : (x : Ending) → done.ending ≡ x → ⊥
  by (State w) h = replay_refused file done w past r h
  by (RefusedAt f place) h = omega (arith, zero, ap (λ (a : Answer). a.status) e, ap status_of h)
not_done Checking file answer past p zero = omega (arith, zero, text_refused check_statements file answer past p)
not_done Encoding file answer past p zero = omega (arith, zero, codec_refused encode_node file answer past p)
not_done Decoding file answer past p zero = omega (arith, zero, codec_refused decode_node file answer past p)
not_done Packing file answer past p zero = omega (arith, zero, codec_refused pack_node file answer past p)
not_done Certifying file answer past p zero = omega (arith, zero, text_refused certify_statements file answer past p)
not_done Verifying file answer past p zero = omega (arith, zero, verify_refused file answer past p)
not_done Auditing file answer past p zero = omega (arith, zero, audit_refused file past answer p)
not_done Snapshotting file answer past (x, r, e) zero = reached_undone file x past r (sym (ap (λ (a : Answer). a.status) e) ∙ zero)

pub verb_done : (verb : Verb) (file : List ℕ) (answer : Answer) → IsVerbAnswer verb file answer → answer.status ≡ 0 → length file ≤ file_limit
verb_done verb file answer p zero = elim (split (length file) file_limit) [
  | inl short ↦ short
  | inr past ↦ absurd (not_done verb file answer past p zero)
]

pub exact_cut : (verb : Verb) (read : List ℕ) (r : Result Reply Memory) → IfOk r (λ a. IsVerbAnswer verb read (answer_seen a)) → IfOk r (λ a. (more : List ℕ) → IsRest read more → IsVerbAnswer verb (read ++ more) (answer_seen a))
exact_cut verb read (Ok a) p = λ more rest. verb_cut verb read more (answer_seen a) rest p
exact_cut verb read (Err e) p = tt

-- the answer to what was read of a file is the answer of its command
pub on_read : (command : Command) (verb : Verb) (path : List ℕ) (content : List ℕ → Option (List ℕ)) (read : List ℕ) (answer : Answer) → OnFile verb path ≡ command →
    IsReadOf (content path) read → ((more : List ℕ) → IsRest read more → IsVerbAnswer verb (read ++ more) answer) → IsTold command content → IsAnswer command content answer
on_read _ verb path content read answer e r h = subst (λ (c : Command). IsTold c content → IsAnswer c content answer) e (λ t. by (content path) refl r t)
  where
    by : (o : Option (List ℕ)) → content path ≡ o → IsReadOf o read → IsSome o → IsAnswer (OnFile verb path) content answer
    by None f r t = absurd cc
    by (Some file) f (more, g, rest) t = (file, f, subst (λ (l : List ℕ). IsVerbAnswer verb l answer) (sym g) (h more rest))

-- after status 0 no more was read than a file may have
pub done_end : (verb : Verb) (read : List ℕ) (r : Result Reply Memory) → IfOk r (λ a. IsVerbAnswer verb read (answer_seen a)) → IfOk r (λ a. a.status ≡ 0 → length read ≤ file_limit)
done_end verb read (Ok a) p = λ zero. verb_done verb read (answer_seen a) p zero
done_end verb read (Err e) p = tt
