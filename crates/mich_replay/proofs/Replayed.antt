-- How a file that goes on from a course, or from none, ends.
use Rattle.std.proofs.Common.{◌≡◌, ◌⊎◌, ℕ, ◌+◌, Bool, true, List, [], ◌++◌, length, Option, Some, None, IsSome, Result, Ok, Err, refl, sym, ap, ◌∙◌, subst, inl, inr, append_assoc, append-nil}
use Rattle.std.specs.Io.KnownBytes.{Consumes, IsAtEnd}
use Rattle.rules_files.specs.course.Course.{Course as PlainCourse}
use Rattle.rules_files.specs.commands.Answers.{Answer, replay_answer, status_of}
use Rattle.rules_files.specs.commands.Commands.{OnFile, Replaying, IsAnswer}
use Rattle.rules_files.specs.commands.Lines.{group_lines, ending_lines}
use Rattle.rules_files.specs.commands.Places.{AreStatements, IsEndAt}
use Rattle.rules_files.specs.commands.Resuming.{IsResumed}
use Rattle.rules_files.specs.commands.Replay.{Replay, Closes as Ends, Ending, State, RefusedAt, FileFault, IsReplay, Run, ending_of}
use Rattle.rules_world.specs.world.Receipts.{Receipt}
use Rattle.mich_text.specs.pieces.Held.{Held}
use Rattle.mich_replay.specs.Coming.{Closes, Comes, ComesTo, Cut, EndsAs, IsRefused, Told, lines_behind}
use Rattle.mich_replay.specs.Output.{Output, Writes, WritesFront}
use Rattle.mich_replay.specs.Pace.{groups_in}
use Rattle.mich_replay.specs.declared.progress.Progress.{Progress}
use Rattle.mich_io.specs.declared.stop.Stop.{Stop}
use Rattle.mich_replay.proofs.Begins.{begins}
use Rattle.mich_replay.proofs.Once.{comes-one}
use Rattle.mich_replay.proofs.Written.{front_then, lines-more, longer, writes_then}

-- the lines of a replay begin with those of the first receipts
lines_begin : (groups : ℕ) (receipts rest : List Receipt) (done : Replay) → done.receipts ≡ receipts ++ rest →
    lines_behind groups done ≡ group_lines (groups + 1) receipts ++ (group_lines (length receipts + (groups + 1)) rest ++ ending_lines done.ending)
lines_begin groups receipts rest done e =
    ap (λ (rs : List Receipt). group_lines (groups + 1) rs ++ ending_lines done.ending) e
    ∙ ap (λ (ls : List (List ℕ)). ls ++ ending_lines done.ending) (lines-more (groups + 1) receipts rest)
    ∙ append_assoc (group_lines (groups + 1) receipts) (group_lines (length receipts + (groups + 1)) rest) (ending_lines done.ending)

-- a file that is applied to its end
abbrev ended_as : List ℕ → List Receipt → Option PlainCourse → Replay
ended_as bytes receipts p = record { receipts = receipts; ending = ending_of (length bytes) p }

module _ (from : Option PlainCourse) (content : Option (List ℕ)) (bytes : List ℕ) (left : Option (List ℕ)) (last : Bool) (read : Consumes content left bytes) (at_end : last ≡ true → IsAtEnd left) where
  -- what follows these bytes in the file
  pub rest_of : (file : List ℕ) → content ≡ Some file → (rest : List ℕ) × (file ≡ bytes ++ rest) × (last ≡ true → rest ≡ [])
  rest_of file e = by left (subst (λ (o : Option (List ℕ)). Consumes o left bytes) e read) at_end where
    by : (l : Option (List ℕ)) → Consumes (Some file) l bytes → (last ≡ true → IsAtEnd l) → (rest : List ℕ) × (file ≡ bytes ++ rest) × (last ≡ true → rest ≡ [])
    by None p q = absurd p
    by (Some rest) p q = (rest, p, q)

  -- a front of the lines of some groups was written
  pub cut_ends : (a b : Output) (stop : Stop) → Cut from bytes last a b → EndsAs from content a b (Err stop)
  cut_ends a b stop h = λ file done is comes.
      let x = rest_of file is in
      let stand = subst (λ (l : List ℕ). AreStatements l 0 h.statements h.place) (sym x.1) (h.begun.stand x.0 x.2) in
      let more = begins from file h.statements h.place h.receipts h.plain done stand h.begun.run comes in
      let groups = groups_in from in
      subst (WritesFront a b) (sym (lines_begin groups h.receipts more.rest done more.all_is))
      (longer a b (group_lines (groups + 1) h.receipts) (group_lines (length h.receipts + (groups + 1)) more.rest ++ ending_lines done.ending) h.lines)

  -- the file comes to this, whatever follows
  done_ends : (a b d : Output) (done : Replay) (r : Result ℕ Stop) → ((more : List ℕ) → (last ≡ true → more ≡ []) → ComesTo from (bytes ++ more) done) →
      Writes a b (group_lines (groups_in from + 1) done.receipts) → Closes b d done.ending r → EndsAs from content a d r
  done_ends a b d done r exact p q = by r q
    where
      there : (file : List ℕ) → content ≡ Some file → ComesTo from file done
      there file is = let x = rest_of file is in subst (λ (l : List ℕ). ComesTo from l done) (sym x.1) (exact x.0 x.2)

      by : (r : Result ℕ Stop) → Closes b d done.ending r → EndsAs from content a d r
      by (Ok status) q = (done, there, q.0, writes_then a b d (group_lines (groups_in from + 1) done.receipts) (ending_lines done.ending) p q.1)
      by (Err e) q = λ file other is comes.
          subst (λ (x : Replay). WritesFront a d (lines_behind (groups_in from) x)) (comes-one from file done other (there file is) comes)
          (front_then a b d (group_lines (groups_in from + 1) done.receipts) (ending_lines done.ending) p q)

  pub refused_ends : (a b d : Output) (receipts : List Receipt) (fault : FileFault) (at : ℕ) (r : Result ℕ Stop) → IsRefused from bytes last receipts fault at →
      Writes a b (group_lines (groups_in from + 1) receipts) → Closes b d (RefusedAt fault at) r → EndsAs from content a d r
  refused_ends a b d receipts fault at r h p q = done_ends a b d (record { receipts = receipts; ending = RefusedAt fault at }) r h p q

  pub ended_ends : (a b d : Output) (s : Held) (c : Progress) (size : ℕ) (r : Result ℕ Stop) → last ≡ true → size ≡ length bytes → (h : Told from bytes true a b s c) →
      IsEndAt bytes s.place → Closes b d (ending_of size h.came.plain) r → EndsAs from content a d r
  ended_ends a b d s c size r is_last same h end q =
      done_ends a b d (ended_as bytes h.receipts h.came.plain) r whole h.lines (subst (λ (n : ℕ). Closes b d (ending_of n h.came.plain) r) same q)
    where
      base : ComesTo from bytes (ended_as bytes h.receipts h.came.plain)
      base = record {
        statements = h.came.statements;
        to = s.place;
        stand = subst (λ (l : List ℕ). AreStatements l 0 h.came.statements s.place) (append-nil bytes) (h.came.reads.begun.stand [] (λ e. refl));
        closes = subst (λ (x : Run). Ends bytes s.place x (ended_as bytes h.receipts h.came.plain)) (sym h.came.reads.begun.run) (inl (end, refl));
      }

      whole : (more : List ℕ) → (last ≡ true → more ≡ []) → ComesTo from (bytes ++ more) (ended_as bytes h.receipts h.came.plain)
      whole more none =
          subst (λ (l : List ℕ). ComesTo from (bytes ++ l) (ended_as bytes h.receipts h.came.plain)) (sym (none is_last))
          (subst (λ (l : List ℕ). ComesTo from l (ended_as bytes h.receipts h.came.plain)) (sym (append-nil bytes)) base)

-- ---- a whole file

pub replay_of : (file : List ℕ) (done : Replay) → ComesTo None file done → IsReplay file done
replay_of file done r = record { statements = r.statements; to = r.to; stand = r.stand; closes = r.closes }

pub comes_of : (file : List ℕ) (done : Replay) → IsReplay file done → ComesTo None file done
comes_of file done r = record { statements = r.statements; to = r.to; stand = r.stand; closes = r.closes }

-- the status of an ending is 0 or 2
pub ending_own : (ending : Ending) → (status_of ending ≡ 0) ⊎ (status_of ending ≡ 2)
ending_own (State w) = inl refl
ending_own (RefusedAt fault place) = inr refl

pub replay_comes : (content : List ℕ → Option (List ℕ)) (path : List ℕ) (a b : Output) (r : Result ℕ Stop) → EndsAs None (content path) a b r → Comes (OnFile Replaying path) content a b r
replay_comes content path a b (Ok status) (done, exact, is, p) = (replay_answer done, λ t. told (content path) refl t, ending_own done.ending, is, p)
  where
    told : (o : Option (List ℕ)) → content path ≡ o → IsSome o → IsAnswer (OnFile Replaying path) content (replay_answer done)
    told None e t = absurd cc
    told (Some file) e t = (file, e, (done, replay_of file done (exact file e), refl))
replay_comes content path a b (Err e) h = λ answer found. by answer found
  where
    by : (answer : Answer) → IsAnswer (OnFile Replaying path) content answer → WritesFront a b answer.lines
    by answer (file, is, (done, replay, same)) =
        subst (λ (y : Answer). WritesFront a b y.lines) (sym same) (h file done is (comes_of file done replay))

-- ---- a file behind a snapshot

pub resumed_of : (c : PlainCourse) (file : List ℕ) (done : Replay) → ComesTo (Some c) file done → IsResumed c file done
resumed_of c file done r = record { statements = r.statements; to = r.to; stand = r.stand; closes = r.closes }

pub comes_behind : (c : PlainCourse) (file : List ℕ) (done : Replay) → IsResumed c file done → ComesTo (Some c) file done
comes_behind c file done r = record { statements = r.statements; to = r.to; stand = r.stand; closes = r.closes }
