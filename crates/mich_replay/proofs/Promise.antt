-- What is promised, where the whole text was written, and where a front of it was.
use Rattle.std.proofs.Common.{◌≡◌, ◌≢◌, ◌≤◌, ℕ, List, IsSome, IfOk, IsErrOf, Result, Ok, Err, inl, inr, refl, sym, subst, arith}
use Rattle.std.specs.declared.option.Option.{Option}
use Rattle.std.specs.Io.KnownBytes.{IsAtEnd}
use Rattle.rules_text.specs.streams.Causes.{HasCause, Rose}
use Rattle.rules_files.specs.commands.Answers.{Answer}
use Rattle.rules_files.specs.commands.Commands.{Command, OnFile, Resuming, Generating, NoCommand, AreTold, IsToldBehind, IsOwn, IsTold, IsAnswer, command_of, file_of}
use Rattle.rules_files.specs.commands.Promise.{Meets}
use Rattle.rules_files.specs.commands.Resuming.{Resumes}
use Rattle.rules_files.specs.snapshots.Loading.{LoadFault, loaded}
use Rattle.rules_files.specs.snapshots.State.{State}
use Rattle.mich_replay.specs.Coming.{Comes}
use Rattle.mich_replay.specs.Output.{Output, HandsLines, Writes, WritesFront}
use Rattle.mich_io.specs.declared.stop.Stop.{Stop}
use Rattle.mich_io.specs.declared.stop.Stop.TheVariants as stop
use Rattle.mich_io.specs.Status.{status_in}
use Rattle.mich_replay.proofs.Once.{answers-one}
use Rattle.mich_replay.proofs.Written.{writes_front}

own_known : (command : Command) (status : ℕ) → IsOwn command status → status ≤ 2
own_known (OnFile verb path) status (inl e) = omega (arith, e)
own_known (OnFile verb path) status (inr e) = omega (arith, e)
own_known (Resuming snapshot path) status (inl e) = omega (arith, e)
own_known (Resuming snapshot path) status (inr e) = omega (arith, e)
own_known (Generating calls) status e = omega (arith, e)
own_known NoCommand status e = omega (arith, e)

own_usage : (command : Command) (status : ℕ) → IsOwn command status → status ≡ 1 → command ≡ NoCommand
own_usage (OnFile verb path) status (inl e) h = absurd (omega (arith, e, h))
own_usage (OnFile verb path) status (inr e) h = absurd (omega (arith, e, h))
own_usage (Resuming snapshot path) status (inl e) h = absurd (omega (arith, e, h))
own_usage (Resuming snapshot path) status (inr e) h = absurd (omega (arith, e, h))
own_usage (Generating calls) status e h = absurd (omega (arith, e, h))
own_usage NoCommand status e h = refl

own_refused : (command : Command) (status : ℕ) → IsOwn command status → status ≡ 2 → IsSome (file_of command)
own_refused (OnFile verb path) status own h = refl
own_refused (Resuming snapshot path) status own h = refl
own_refused (Generating calls) status e h = absurd (omega (arith, e, h))
own_refused NoCommand status e h = absurd (omega (arith, e, h))

told_behind : (found : Result State LoadFault) (file : Option (List ℕ)) (answer : Answer) → Resumes found file answer → IsToldBehind found file
told_behind (Ok s) file answer h = subst IsSome (sym h.1) refl
told_behind (Err fault) file answer h = tt

-- what has an answer is told
told : (command : Command) (content : List ℕ → Option (List ℕ)) (answer : Answer) → IsAnswer command content answer → IsTold command content
told (OnFile verb path) content answer h = subst IsSome (sym h.1) refl
told (Resuming snapshot path) content answer (bytes, e, h) =
    subst (λ (o : Option (List ℕ)). AreTold o (content path)) (sym e) (told_behind (loaded bytes) (content path) answer h)
told (Generating calls) content answer h = tt
told NoCommand content answer h = tt

-- each answer is this one
front : (command : Command) (content : List ℕ → Option (List ℕ)) (a b : Output) (answer : Answer) → (IsTold command content → IsAnswer command content answer) →
    (other : Answer) → IsAnswer command content other → WritesFront a b answer.lines → WritesFront a b other.lines
front command content a b answer exact other h p =
    let same : answer ≡ other = answers-one command content answer other (exact (told command content other h)) h in
    subst (λ (x : Answer). WritesFront a b x.lines) same p

-- ---- how a command ends

-- this answer's lines were written, with its status; or a front of them was
abbrev pub Shows : Output → Output → Answer → Result ℕ Stop → Type 0
Shows a b answer (Ok status) = (status ≡ answer.status) × Writes a b answer.lines
Shows a b answer (Err e) = WritesFront a b answer.lines

pub shown : (command : Command) (content : List ℕ → Option (List ℕ)) (a b : Output) (answer : Answer) (r : Result ℕ Stop) →
    (IsTold command content → IsAnswer command content answer) → IsOwn command answer.status → Shows a b answer r → Comes command content a b r
shown what content a b answer (Ok status) exact own p = (answer, exact, own, p.0, p.1)
shown what content a b answer (Err e) exact own p = λ other h. front what content a b answer exact other h p

-- ---- what is promised

module _ (words : List (List ℕ)) (content : List ℕ → Option (List ℕ)) (a b : Output) (r0 r1 w0 w1 : ℕ) (left : Option (List ℕ)) where
  meets : (status : ℕ) → Comes (command_of words) content a b (Ok status) → (status ≡ 0 → IsSome (file_of (command_of words)) → IsAtEnd left) → Meets words content r0 r1 w0 w1 left a.written b.written status
  meets status (answer, exact, own, is, p) end =
      let same : IsOwn (command_of words) status = subst (IsOwn (command_of words)) (sym is) own in
      let small = own_known (command_of words) status same in
      record {
        known = omega (arith, small);
        whole = λ t _. (answer, exact t, is, p.text);
        front = λ other h. (front (command_of words) content a b answer exact other h (writes_front a b answer.lines p)).text;
        usage = own_usage (command_of words) status same;
        refused = own_refused (command_of words) status same;
        read_fault = λ e. absurd (omega (arith, small, e));
        write_fault = λ e. absurd (omega (arith, small, e));
        complete = λ _ _. inl small;
        end = end;
      }

  -- it was given up, where a count rose or for want of memory
  gives_up : (status : ℕ) (stop : Stop) → 3 ≤ status → status ≤ 5 → (status ≡ 3 → IsSome (file_of (command_of words)) × Rose r0 r1) → (status ≡ 4 → Rose w0 w1) →
      Comes (command_of words) content a b (Err stop) → Meets words content r0 r1 w0 w1 left a.written b.written status
  gives_up status stop low high read write p = record {
    known = high;
    whole = λ t small. absurd (omega (arith, low, small));
    front = λ answer h. (p answer h).text;
    usage = λ e. absurd (omega (arith, low, e));
    refused = λ e. absurd (omega (arith, low, e));
    read_fault = read;
    write_fault = write;
    complete = λ quiet still. inr (five quiet still);
    end = λ e. absurd (omega (arith, low, e));
  }
    where
      five : ¬ Rose r0 r1 → ¬ Rose w0 w1 → status ≡ 5
      five quiet still =
          let no_read : status ≢ 3 = λ e. quiet (read e).1 in
          let no_write : status ≢ 4 = λ e. still (write e) in
          omega (arith, low, high, no_read, no_write)

  -- the status is that of what it came to
  pub meets_in : (r : Result ℕ Stop) → Comes (command_of words) content a b r → IfOk r (λ status. status ≡ 0 → IsSome (file_of (command_of words)) → IsAtEnd left) →
      (IsErrOf r stop.Read → IsSome (file_of (command_of words))) → HasCause stop.Read r0 r1 r → HasCause stop.Write w0 w1 r →
      Meets words content r0 r1 w0 w1 left a.written b.written (status_in r)
  meets_in (Ok status) comes end file reads writes = meets status comes end
  meets_in (Err stop.Read) comes end file reads writes =
      gives_up 3 stop.Read (omega arith) (omega arith) (λ _. (file refl, reads.failed refl)) (λ e. absurd (omega (arith, e))) comes
  meets_in (Err stop.Write) comes end file reads writes =
      gives_up 4 stop.Write (omega arith) (omega arith) (λ e. absurd (omega (arith, e))) (λ _. writes.failed refl) comes
  meets_in (Err stop.Memory) comes end file reads writes =
      gives_up 5 stop.Memory (omega arith) (omega arith) (λ e. absurd (omega (arith, e))) (λ e. absurd (omega (arith, e))) comes

-- ---- the lines that are handed over

module _ (words : List (List ℕ)) (content : List ℕ → Option (List ℕ)) (a b : Output) where
  hands : (status : ℕ) → Comes (command_of words) content a b (Ok status) → HandsLines words content a.handed b.handed status
  hands status (answer, exact, own, is, p) = record {
    whole = λ t _. (answer, exact t, is, p.pieces);
    front = λ other h. (front (command_of words) content a b answer exact other h (writes_front a b answer.lines p)).pieces;
  }

  hands_front : (status : ℕ) (stop : Stop) → 3 ≤ status → Comes (command_of words) content a b (Err stop) → HandsLines words content a.handed b.handed status
  hands_front status stop low p = record { whole = λ t small. absurd (omega (arith, low, small)); front = λ answer h. (p answer h).pieces }

  pub hands_in : (r : Result ℕ Stop) → Comes (command_of words) content a b r → HandsLines words content a.handed b.handed (status_in r)
  hands_in (Ok status) comes = hands status comes
  hands_in (Err stop.Read) comes = hands_front 3 stop.Read (omega arith) comes
  hands_in (Err stop.Write) comes = hands_front 4 stop.Write (omega arith) comes
  hands_in (Err stop.Memory) comes = hands_front 5 stop.Memory (omega arith) comes

-- what holds, holds of each status
pub whatever : (Q : Type 0) (r : Result ℕ Stop) → Q → IfOk r (λ status. status ≡ 0 → Q)
whatever Q (Ok status) q = λ zero. q
whatever Q (Err e) q = tt
