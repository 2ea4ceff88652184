-- A file comes to an answer.
use Rattle.std.proofs.Common.{codes, Bool, true, false, ◌≡◌, ℕ, zero, suc, ◌+◌, ◌-◌, ◌≤◌, ◌⊎◌, inl, inr, List, [], ◌∷◌, length, drop, Option, Some, None, IsSome, Result, Ok, Err, refl, sym, subst, arith}
use Rattle.std.proofs.lemmas.Bool.Decides.{nat_tests}
use Rattle.std.proofs.lemmas.List.{length-drop}
use Rattle.std.specs.Prelude.{◌&&◌, nat_le, if◌then◌else◌}
use Rattle.std.specs.Str.{bytes_eq}
use Rattle.rules_text.specs.nodes.Tree.{Tree}
use Rattle.rules_files.specs.course.Course.{Course}
use Rattle.rules_text.specs.declared.text.TextKind.{TextKind}
use Rattle.rules_files.specs.commands.Answers.{Answer, done_with, replay_answer, usage_answer}
use Rattle.rules_files.specs.commands.Codec.{IsCodecAnswer, of_listing, of_text, encode_node, decode_node}
use Rattle.rules_files.specs.commands.Commands.{Command, OnFile, Resuming, Generating, NoCommand, Verb, Replaying, Checking, Encoding, Decoding, Packing, Certifying, Verifying, Auditing, Snapshotting, AreTold, IsToldBehind, IsVerbAnswer, IsAnswer, is_path, verb_of, on_file, digits_behind, in_range, calls_of, on_calls, command_of}
use Rattle.rules_files.specs.commands.Packs.{pack_node}
use Rattle.rules_files.specs.commands.Places.{Placed, IsNodeAt, IsFaultAt, IsEndAt, AreStatements, Listing, EndsIn, IsListing}
use Rattle.rules_files.specs.commands.Replay.{Replay, IsReplay, Closes, Run, going, stopped, stuck_run, run_all, RefusedAt, TextFault, ending_of}
use Rattle.rules_files.specs.commands.Resuming.{IsResumed, Resumes, load_answer, resumed_answer}
use Rattle.rules_files.specs.commands.Scripts.{check_statements}
use Rattle.rules_files.specs.commands.Snapshots.{Reached, refused_at, IsReached, Reaches, reached_by, snapshot_answer}
use Rattle.rules_files.specs.snapshots.Course.{course_of}
use Rattle.rules_files.specs.snapshots.Loading.{LoadFault, loaded}
use Rattle.rules_files.specs.snapshots.State.{State}
use Rattle.rules_files.specs.commands.Certificates.{certify_statements, IsVerifyAnswer}
use Rattle.rules_world.specs.world.Receipts.{Receipt}
use Rattle.mich_answers.proofs.ForCallers.{further}
use Rattle.mich_text.specs.declared.fault.LexError.TheVariants as errors
use Rattle.mich_text.proofs.ForCallers.{limited_within, stands_within}
use Rattle.rules_world.specs.summary.Summary.{summary_line}
use Rattle.laws_data.specs.binary.Laws.{IsBytes}
use Rattle.laws_files.proofs.snapshots_lemmas.Loads.{loaded_are_sound}
use Rattle.mich_snapshot.proofs.Worlds.{sound_worlds_are_good}
use Rattle.mich_replay.specs.Coming.{ComesTo}
use Rattle.mich_replay.specs.Laws.{HasAnAnswer}
use Rattle.mich_replay.proofs.Certified.{verified_answer}
use Rattle.mich_replay.proofs.Fronts.{IsTextAnswer}
use Rattle.mich_replay.proofs.Audited.{audit_answers}
use Rattle.mich_replay.proofs.Conserved.{no_group_is_stuck}
use Rattle.mich_replay.proofs.Replayed.{replay_of, resumed_of}
use Rattle.mich_replay.proofs.Resumed.{resumed_are_not_stuck}
use Rattle.mich_replay.proofs.SoundCourses.{groups_few, sound_course}
use Rattle.mich_replay.proofs.Workload.{workload_replays}
use Rattle.mich_replay.proofs.Readable.{Readable, is_node, is_fault, is_end, readable}

-- ---- what stands at a place

data Standing (file : List ℕ) (place : ℕ) : Type 0 where
  statement : (s : Placed) (behind : ℕ) → IsNodeAt file place s.node s.place behind → Standing file place
  fault : (kind : TextKind) (at : ℕ) → IsFaultAt file place kind at → Standing file place
  nothing : IsEndAt file place → Standing file place

standing : (file : List ℕ) (place : ℕ) → place ≤ length file → Standing file place
standing file place h = by (readable place (drop place file)) where
  by : Readable place (drop place file) → Standing file place
  by (is_node t start end n) =
      let fits = stands_within (drop place file) t start end n.stands in
      statement (record { place = length file - start; node = t }) (length file - end)
      (start, end, n, omega (arith, fits, length-drop place file), omega (arith, fits, length-drop place file))
  by (is_fault kind left f) =
      let fits : left ≤ length (drop place file) = limited_within place (drop place file) (Err (errors.Flaw (record { kind = kind; left = left }))) f in
      fault kind (length file - left) (left, f, omega (arith, fits, length-drop place file))
  by (is_end e) = nothing e

-- ---- all statements

record Listed (file : List ℕ) (place : ℕ) : Type 0 where
  statements : List Placed
  to : ℕ
  fault : Option (TextKind × ℕ)
  stand : AreStatements file place statements to
  ends : EndsIn file to fault

-- where no statement stands
unlisted : (file : List ℕ) (place : ℕ) → EndsIn file place None ⊎ ((f : TextKind × ℕ) × EndsIn file place (Some f)) → Listed file place
unlisted file place (inl e) = record { statements = []; to = place; fault = None; stand = refl; ends = e }
unlisted file place (inr f) = record { statements = []; to = place; fault = Some f.0; stand = refl; ends = f.1 }

behind_it : (file : List ℕ) (place : ℕ) (s : Placed) (behind : ℕ) → IsNodeAt file place s.node s.place behind → Listed file behind → Listed file place
behind_it file place s behind node rest = record { statements = s ∷ rest.statements; to = rest.to; fault = rest.fault; stand = (behind, node, rest.stand); ends = rest.ends }

listed : (n : ℕ) (file : List ℕ) (place : ℕ) → place ≤ length file → length file ≤ place + n → Listed file place
listed zero file place h room = elim (standing file place h) [
  | statement s behind node ↦ absurd (omega (arith, further file place s.node s.place behind h node, room))
  | fault kind at f ↦ unlisted file place (inr ((kind, at), f))
  | nothing e ↦ unlisted file place (inl e)
]
listed (suc m) file place h room = elim (standing file place h) [
  | statement s behind node ↦
      let far = further file place s.node s.place behind h node in
      behind_it file place s behind node (listed m file behind far.2 (omega (arith, far, room)))
  | fault kind at f ↦ unlisted file place (inr ((kind, at), f))
  | nothing e ↦ unlisted file place (inl e)
]

all_listed : (file : List ℕ) → Listed file 0
all_listed file = listed (length file) file 0 (omega arith) (omega arith)

listing : (file : List ℕ) → (found : Listing) × IsListing file found
listing file = let l = all_listed file in (record { statements = l.statements; fault = l.fault }, (l.to, l.stand, l.ends))

-- ---- files that go on from a course, or from none

-- what the statements of a file come to, where none of its groups is stuck
comes : (from : Option Course) (file : List ℕ) (l : Listed file 0) → (run_all (going [] from) l.statements ≡ stuck_run → ⊥) → (done : Replay) × ComesTo from file done
comes from file l free = by (run_all (going [] from) l.statements) refl where
  made : (r : Run) (done : Replay) → run_all (going [] from) l.statements ≡ r → Closes file l.to r done → (d : Replay) × ComesTo from file d
  made r done e c = (done, record { statements = l.statements; to = l.to; stand = l.stand; closes = subst (λ (x : Run). Closes file l.to x done) (sym e) c })

  ended : (receipts : List Receipt) (c : Option Course) (o : Option (TextKind × ℕ)) → EndsIn file l.to o → run_all (going [] from) l.statements ≡ going receipts c → (d : Replay) × ComesTo from file d
  ended receipts c None x e = made (going receipts c) (record { receipts = receipts; ending = ending_of (length file) c }) e (inl (x, refl))
  ended receipts c (Some f) x e = made (going receipts c) (record { receipts = receipts; ending = RefusedAt (TextFault f.0) f.1 }) e (inr (f.0, f.1, x, refl))

  by : (r : Run) → run_all (going [] from) l.statements ≡ r → (d : Replay) × ComesTo from file d
  by (stopped receipts f place) e = made (stopped receipts f place) (record { receipts = receipts; ending = RefusedAt f place }) e refl
  by (going receipts c) e = ended receipts c l.fault l.ends e
  by stuck_run e = absurd (free e)

pub replays : (file : List ℕ) → (done : Replay) × IsReplay file done
replays file =
    let l = all_listed file in
    let d = comes None file l (no_group_is_stuck file l.statements l.to l.stand) in
    (d.0, replay_of file d.0 d.1)

-- the same of the state that a file comes to
reaches : (file : List ℕ) → (reached : Reached) × IsReached file reached
reaches file = by (run_all (going [] None) l.statements) refl where
  l : Listed file 0
  l = all_listed file

  made : (r : Run) (reached : Reached) → run_all (going [] None) l.statements ≡ r → Reaches file l.statements l.to r reached → (x : Reached) × IsReached file x
  made r reached e c = (reached, record { statements = l.statements; to = l.to; stand = l.stand; reaches = subst (λ (x : Run). Reaches file l.statements l.to x reached) (sym e) c })

  ended : (receipts : List Receipt) (c : Option Course) (o : Option (TextKind × ℕ)) → EndsIn file l.to o → run_all (going [] None) l.statements ≡ going receipts c → (x : Reached) × IsReached file x
  ended receipts c None x e = made (going receipts c) (reached_by (length file) l.statements c) e (inl (x, refl))
  ended receipts c (Some f) x e = made (going receipts c) (refused_at (TextFault f.0) f.1) e (inr (f.0, f.1, x, refl))

  by : (r : Run) → run_all (going [] None) l.statements ≡ r → (x : Reached) × IsReached file x
  by (stopped receipts f place) e = made (stopped receipts f place) (refused_at f place) e refl
  by (going receipts c) e = ended receipts c l.fault l.ends e
  by stuck_run e = absurd (no_group_is_stuck file l.statements l.to l.stand e)

-- a file that goes on from a state that was loaded from bytes
resumes : (bytes : List ℕ) (s : State) → IsBytes bytes → loaded bytes ≡ Ok s → (file : List ℕ) → (done : Replay) × IsResumed (course_of s) file done
resumes bytes s are_bytes loads file =
    let sound = loaded_are_sound bytes s are_bytes loads in
    let good = sound_course s sound.1 sound.2 (sound_worlds_are_good s sound.1 sound.2) in
    let l = all_listed file in
    let d = comes (Some (course_of s)) file l (resumed_are_not_stuck (course_of s) good (groups_few s sound.2) file l.statements l.to l.stand) in
    (d.0, resumed_of (course_of s) file d.0 d.1)

-- ---- answers

codec_answers : (command : Tree → Option Answer) (file : List ℕ) → (answer : Answer) × IsCodecAnswer command file answer
codec_answers command file = let l = listing file in (of_listing command (length file) l.0, (l.0, l.1, refl))

text_answers : (own : List Placed → Answer) (file : List ℕ) → (answer : Answer) × IsTextAnswer own file answer
text_answers own file = let l = listing file in (of_text l.0.fault (own l.0.statements), (l.0, l.1, refl))

verify_answers : (file : List ℕ) → (answer : Answer) × IsVerifyAnswer file answer
verify_answers file =
    let l = listing file in
    let v = verified_answer l.0.fault (length file) l.0.statements in
    (v.0, (l.0, l.1, v.1))

verb_answers : (verb : Verb) (file : List ℕ) → (answer : Answer) × IsVerbAnswer verb file answer
verb_answers Replaying file = let r = replays file in (replay_answer r.0, (r.0, r.1, refl))
verb_answers Checking file = text_answers check_statements file
verb_answers Encoding file = codec_answers encode_node file
verb_answers Decoding file = codec_answers decode_node file
verb_answers Packing file = codec_answers pack_node file
verb_answers Certifying file = text_answers certify_statements file
verb_answers Verifying file = verify_answers file
verb_answers Auditing file = audit_answers file
verb_answers Snapshotting file = let r = reaches file in (snapshot_answer r.0, (r.0, r.1, refl))

-- a workload has at most so many calls
abbrev IsWithin : Command → Type 0
IsWithin (OnFile verb path) = Unit {0}
IsWithin (Resuming snapshot path) = Unit {0}
IsWithin (Generating calls) = calls ≤ 100000
IsWithin NoCommand = Unit {0}

answered : (command : Command) → IsWithin command → HasAnAnswer command
answered (OnFile verb path) within content bytes told = by (content path) refl told where
  by : (o : Option (List ℕ)) → content path ≡ o → IsSome o → (answer : Answer) × IsAnswer (OnFile verb path) content answer
  by None e t = absurd cc
  by (Some file) e t = let a = verb_answers verb file in (a.0, (file, e, a.1))
answered (Resuming snapshot path) within content bytes told = by (content snapshot) refl told where
  loads : (bs : List ℕ) → content snapshot ≡ Some bs → (found : Result State LoadFault) → loaded bs ≡ found → IsToldBehind found (content path) →
      (answer : Answer) × IsAnswer (Resuming snapshot path) content answer
  loads bs e (Err why) f t =
      (load_answer why, (bs, e, subst (λ (x : Result State LoadFault). Resumes x (content path) (load_answer why)) (sym f) refl))
  loads bs e (Ok s) f t = goes (content path) refl t where
    goes : (o : Option (List ℕ)) → content path ≡ o → IsSome o → (answer : Answer) × IsAnswer (Resuming snapshot path) content answer
    goes None g t = absurd cc
    goes (Some file) g t =
        let d = resumes bs s (bytes bs e) f file in
        let answer = resumed_answer s.groups d.0 in
        (answer, (bs, e, subst (λ (x : Result State LoadFault). Resumes x (content path) answer) (sym f) (file, g, (d.0, d.1, refl))))

  by : (o : Option (List ℕ)) → content snapshot ≡ o → AreTold o (content path) → (answer : Answer) × IsAnswer (Resuming snapshot path) content answer
  by None e t = absurd t
  by (Some bs) e t = loads bs e (loaded bs) refl t
answered (Generating calls) within content bytes told =
    let done = workload_replays calls within in
    (done_with (summary_line calls done.0 done.1), (done.0, done.1, done.2, refl))
answered NoCommand within content bytes told = (usage_answer, refl)

-- ---- words

within_calls : (o : Option ℕ) → IsWithin (on_calls (in_range o))
within_calls None = tt
within_calls (Some calls) = by (nat_le 1 calls && nat_le calls 100000) refl where
  by : (b : Bool) → nat_le 1 calls && nat_le calls 100000 ≡ b → IsWithin (on_calls (if b then Some calls else None))
  by false e = tt
  by true e = grind (arith, nat_tests, e)

within_word : (b : Bool) (word : List ℕ) → IsWithin (on_calls (if b then in_range (digits_behind 0 word) else None))
within_word true word = within_calls (digits_behind 0 word)
within_word false word = tt

within_file : (o : Option Verb) (word : List ℕ) → IsWithin (on_file o word)
within_file None word = tt
within_file (Some verb) word = by (is_path word) where
  by : (b : Bool) → IsWithin (if b then OnFile verb word else NoCommand)
  by true = tt
  by false = tt

within_words : (words : List (List ℕ)) → IsWithin (command_of words)
within_words [] = tt
within_words (word ∷ []) = tt
within_words (verb ∷ word ∷ []) = by (bytes_eq verb (codes "generate")) where
  by : (b : Bool) → IsWithin (if b then on_calls (calls_of word) else on_file (verb_of verb) word)
  by true = within_word (nat_le (length word) 6) word
  by false = within_file (verb_of verb) word
within_words (verb ∷ snapshot ∷ path ∷ []) = by (bytes_eq verb (codes "resume")) (is_path snapshot && is_path path) where
  by : (b both : Bool) → IsWithin (if b then (if both then Resuming snapshot path else NoCommand) else NoCommand)
  by true true = tt
  by true false = tt
  by false both = tt
within_words (verb ∷ snapshot ∷ path ∷ word ∷ words) = tt

pub words_answered : (words : List (List ℕ)) → HasAnAnswer (command_of words)
words_answered words = answered (command_of words) (within_words words)
