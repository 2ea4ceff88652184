-- How what was written keeps step with what was taken.
use Rattle.std.proofs.Common.{◌≡◌, ◌≤◌, ◌+◌, ℕ, Bool, false, true, List, [], ◌++◌, length, Some, None, Result, Ok, Err, inl, inr, refl, sym, ap, ◌∙◌, subst, append-nil, arith}
use Rattle.std.specs.declared.option.Option.{Option}
use Rattle.std.specs.Io.KnownBytes.{Appends, Consumes}
use Rattle.std.specs.Prelude.{IsErrOf}
use Rattle.std.proofs.KnownBytes.{Appends-nil, Appends-trans}
use Rattle.rules_text.specs.nodes.Limits.{file_limit}
use Rattle.rules_files.specs.commands.Answers.{status_of}
use Rattle.rules_files.specs.commands.Commands.{Verb, Replaying, Snapshotting, Command, OnFile, Resuming, Generating, NoCommand, file_of}
use Rattle.rules_files.specs.commands.Lines.{group_lines, text_of, ending_lines}
use Rattle.rules_files.specs.commands.Replay.{Ending, State, RefusedAt}
use Rattle.rules_files.specs.course.Course.{Course as PlainCourse}
use Rattle.mich_text.specs.pieces.Held.{Held}
use Rattle.mich_replay.specs.Coming.{Closes, Grows, Told}
use Rattle.mich_replay.specs.Pace.{Gives, NoneIsClosedAt, NotStarted, TakesInStep, groups_in, piece_limit}
use Rattle.mich_replay.specs.Output.{Output}
use Rattle.mich_replay.specs.View.{status_in, whole_seen}
use Rattle.mich_replay.specs.declared.command.WholeVerb.{WholeVerb}
use Rattle.mich_replay.specs.declared.command.WholeVerb.TheVariants as wholes
use Rattle.mich_replay.specs.declared.progress.Progress.{Progress}
use Rattle.mich_io.specs.declared.stop.Stop.{Stop}
use Rattle.mich_io.specs.declared.stop.Stop.TheVariants as stop
use Rattle.mich_replay.proofs.Closed.{none_first}

-- ---- what grows

pub grows_nothing : (a : Option (List ℕ)) → Grows a a
grows_nothing a = ([], Appends-nil a)

pub grows_trans : (a b c : Option (List ℕ)) → Grows a b → Grows b c → Grows a c
grows_trans a b c p q = (p.0 ++ q.0, Appends-trans a b c p.0 q.0 p.1 q.1)

pub grows_closed : (a b : Output) (ending : Ending) (r : Result ℕ Stop) → Closes a b ending r → Grows a.written b.written
grows_closed a b ending (Ok status) p = (text_of (ending_lines ending), p.1.text)
grows_closed a b ending (Err e) p = (p.text.0, p.text.3)

-- ---- statuses

three : (ending : Ending) → status_of ending ≡ 3 → ⊥
three (State w) e = absurd (omega (arith, e))
three (RefusedAt fault place) e = absurd (omega (arith, e))

-- what ended, or was given up but for a read, has no read fault's status
pub no_three : (a b : Output) (ending : Ending) (r : Result ℕ Stop) → Closes a b ending r → (IsErrOf r stop.Read → ⊥) → status_in r ≡ 3 → ⊥
no_three a b ending (Ok status) p none e = three ending (sym p.0 ∙ e)
no_three a b ending (Err stop.Read) p none e = none refl
no_three a b ending (Err stop.Write) p none e = absurd (omega (arith, e))
no_three a b ending (Err stop.Memory) p none e = absurd (omega (arith, e))

pub no_three_err : (e : Stop) → (e ≡ stop.Read → ⊥) → status_in (Err e) ≡ 3 → ⊥
no_three_err stop.Read none e = none refl
no_three_err stop.Write none e = absurd (omega (arith, e))
no_three_err stop.Memory none e = absurd (omega (arith, e))

read_of : (e : Stop) → status_in (Err e) ≡ 3 → e ≡ stop.Read
read_of stop.Read h = refl
read_of stop.Write h = absurd (omega (arith, h))
read_of stop.Memory h = absurd (omega (arith, h))

pub not_started : (before left a : Option (List ℕ)) (e : Stop) → (e ≡ stop.Write → ⊥) → left ≡ before → NotStarted before left a a (status_in (Err e))
not_started before left a stop.Read none same = (refl, same, inl refl)
not_started before left a stop.Write none same = absurd (none refl)
not_started before left a stop.Memory none same = (refl, same, inr refl)

-- ---- what was told

-- nothing was taken
pub nothing_taken : (from : Option PlainCourse) (content left a : Option (List ℕ)) (status : ℕ) → Consumes content left [] → TakesInStep from content left a a status
nothing_taken from content left a status bytes = (
  [],
  bytes,
  record {
    front = [];
    piece = [];
    taken_is = refl;
    within = omega arith;
    short = omega arith;
    receipts = [];
    gives = record { statements = []; to = 0; stand = λ more. refl; all = none_first; course = from; run = refl };
    rest = [];
    lines = Appends-nil a;
    read_fault = λ e. (refl, refl);
  },
)

module _ (from : Option PlainCourse) (fed : List ℕ) (a b : Output) (r : Held) (c : Progress) (t : Told from fed false a b r c) (none : NoneIsClosedAt fed r.place) (within : length fed ≤ file_limit) where
  never : false ≡ true → ⊥
  never e = absurd cc

  gives : Gives from fed t.receipts
  gives = record {
    statements = t.came.statements;
    to = r.place;
    stand = λ more. t.came.reads.begun.stand more (λ e. absurd (never e));
    all = none;
    course = t.came.plain;
    run = t.came.reads.begun.run;
  }

  -- all that was taken was told, and nothing else
  pub all_told : (content left : Option (List ℕ)) (status : ℕ) → Consumes content left fed → TakesInStep from content left a.written b.written status
  all_told content left status bytes = (
    fed,
    bytes,
    record {
      front = fed;
      piece = [];
      taken_is = sym (append-nil fed);
      within = within;
      short = omega arith;
      receipts = t.receipts;
      gives = gives;
      rest = [];
      lines = subst (Appends a.written b.written) (sym (append-nil (text_of (group_lines (groups_in from + 1) t.receipts)))) t.lines.text;
      read_fault = λ e. (refl, refl);
    },
  )

  -- a piece was taken, and more was written
  pub one_behind : (content left : Option (List ℕ)) (now : Output) (piece : List ℕ) (status : ℕ) → Consumes content left (fed ++ piece) → length piece ≤ piece_limit → Grows b.written now.written →
      (status ≡ 3 → ⊥) → TakesInStep from content left a.written now.written status
  one_behind content left now piece status bytes short grown none = (
    fed ++ piece,
    bytes,
    record {
      front = fed;
      piece = piece;
      taken_is = refl;
      within = within;
      short = short;
      receipts = t.receipts;
      gives = gives;
      rest = grown.0;
      lines = Appends-trans a.written b.written now.written (text_of (group_lines (groups_in from + 1) t.receipts)) grown.0 t.lines.text grown.1;
      read_fault = λ e. absurd (none e);
    },
  )

  -- a piece was taken or none, and nothing was written
  pub given_up_behind : (content left : Option (List ℕ)) (piece : List ℕ) (e : Stop) → Consumes content left (fed ++ piece) → length piece ≤ piece_limit →
      (e ≡ stop.Read → piece ≡ []) → TakesInStep from content left a.written b.written (status_in (Err e))
  given_up_behind content left piece e bytes short none_read = (
    fed ++ piece,
    bytes,
    record {
      front = fed;
      piece = piece;
      taken_is = refl;
      within = within;
      short = short;
      receipts = t.receipts;
      gives = gives;
      rest = [];
      lines = subst (Appends a.written b.written) (sym (append-nil (text_of (group_lines (groups_in from + 1) t.receipts)))) t.lines.text;
      read_fault = λ three. (none_read (read_of e three), refl);
    },
  )

-- ---- commands

pub whole_reads : (verb : WholeVerb) → whole_seen verb ≡ Replaying → ⊥
whole_reads wholes.Check e = absurd cc
whole_reads wholes.Encode e = absurd cc
whole_reads wholes.Decode e = absurd cc
whole_reads wholes.Pack e = absurd cc
whole_reads wholes.Certify e = absurd cc
whole_reads wholes.Verify e = absurd cc
whole_reads wholes.Audit e = absurd cc

pub snapshot_reads : Snapshotting ≡ Replaying → ⊥
snapshot_reads e = absurd cc

pub same_verb : (verb : Verb) (path other : List ℕ) (what : Command) → OnFile verb path ≡ what → what ≡ OnFile Replaying other → (verb ≡ Replaying) × (path ≡ other)
same_verb verb path other what e f = by (e ∙ f) where
  by : OnFile verb path ≡ OnFile Replaying other → (verb ≡ Replaying) × (path ≡ other)
  by x = let v : verb ≡ Replaying = cc in let p : path ≡ other = cc in (v, p)

pub same_path : (verb other_verb : Verb) (path other : List ℕ) (what : Command) → OnFile verb path ≡ what → what ≡ OnFile other_verb other → path ≡ other
same_path verb other_verb path other what e f = by (e ∙ f) where
  by : OnFile verb path ≡ OnFile other_verb other → path ≡ other
  by x = cc

pub same_paths : (snapshot other_snapshot path other : List ℕ) (what : Command) → Resuming snapshot path ≡ what → what ≡ Resuming other_snapshot other →
    (snapshot ≡ other_snapshot) × (path ≡ other)
same_paths snapshot other_snapshot path other what e f = by (e ∙ f) where
  by : Resuming snapshot path ≡ Resuming other_snapshot other → (snapshot ≡ other_snapshot) × (path ≡ other)
  by x = let s : snapshot ≡ other_snapshot = cc in let p : path ≡ other = cc in (s, p)

-- what kind of command it is
abbrev pub is_on_file : Command → Bool
is_on_file (OnFile verb path) = true
is_on_file (Resuming snapshot path) = false
is_on_file (Generating calls) = false
is_on_file NoCommand = false

abbrev pub is_resuming : Command → Bool
is_resuming (OnFile verb path) = false
is_resuming (Resuming snapshot path) = true
is_resuming (Generating calls) = false
is_resuming NoCommand = false

pub not_on_file : (one what : Command) (verb : Verb) (path : List ℕ) → is_on_file one ≡ false → one ≡ what → what ≡ OnFile verb path → ⊥
not_on_file one what verb path none e f = never (sym none ∙ ap is_on_file (e ∙ f)) where
  never : false ≡ true → ⊥
  never x = absurd cc

pub not_resuming : (one what : Command) (snapshot path : List ℕ) → is_resuming one ≡ false → one ≡ what → what ≡ Resuming snapshot path → ⊥
not_resuming one what snapshot path none e f = never (sym none ∙ ap is_resuming (e ∙ f)) where
  never : false ≡ true → ⊥
  never x = absurd cc

pub names_file : (one what : Command) (path : List ℕ) → file_of one ≡ Some path → one ≡ what → file_of what ≡ None → ⊥
names_file one what path named e none = by (sym named ∙ ap file_of e ∙ none) where
  by : Some path ≡ None → ⊥
  by x = absurd cc
