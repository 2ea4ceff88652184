-- What comes next of a file that comes in pieces.
use Rattle.std.proofs.Common.{◌≡◌, ℕ, ◌+◌, ◌≤◌, ◌<◌, ◌^◌, Bool, false, List, [], ◌∷◌, ◌++◌, length, Option, Some, None, Result, Ok, Err, refl, sym, ap, ◌∙◌, subst, arith}
use Rattle.std.proofs.lemmas.List.{length-append}
use Rattle.std.proofs.KnownBytes.{Consumes-trans}
use Rattle.std.specs.Io.KnownBytes.{Consumes}
use Rattle.std.specs.Prelude.{OnOk}
use Rattle.rules_text.specs.nodes.Tree.{size}
use Rattle.rules_world.specs.lines.Nodes.{line, group_node}
use Rattle.rules_files.specs.commands.Lines.{group_lines}
use Rattle.rules_files.specs.commands.Places.{Placed as PlainPlaced}
use Rattle.rules_files.specs.commands.Replay.{FileFault, Run, going, stopped, stuck_run, taken}
use Rattle.rules_files.specs.course.Course.{Course as PlainCourse}
use Rattle.rules_files.specs.statements.Statements.{form}
use Rattle.rules_text.specs.declared.text.TextKind.{TextKind}
use Rattle.rules_world.specs.world.Receipts.{Receipt}
use Rattle.mich_base.specs.View.{tree}
use Rattle.mich_base.specs.declared.memory.Memory.{Memory}
use Rattle.mich_group.specs.declared.course.course.Course.{Course}
use Rattle.mich_text.specs.pieces.Held.{Held, fresh, fed}
use Rattle.mich_text.specs.pieces.Reading.{IsNext}
use Rattle.mich_text.specs.declared.pieces.reader.Next.TheVariants as next
use Rattle.mich_text.specs.declared.fault.TextError.TheVariants as texts
use Rattle.mich_text.specs.declared.reader.Placed.{Placed}
use Rattle.mich_group.specs.course.Following.{Follows}
use Rattle.mich_replay.specs.Coming.{Came, Cut, Happens, IsRefused, MayGoOn, Told}
use Rattle.mich_replay.specs.Marks.{AreMarks, marked}
use Rattle.mich_replay.specs.Output.{Output, Writes, WritesFront}
use Rattle.mich_replay.specs.Pace.{groups_in}
use Rattle.mich_replay.specs.Steps.{FollowsIf, HasRoom, IsTaken, Stands, groups_of}
use Rattle.mich_replay.specs.View.{file_fault_seen}
use Rattle.mich_replay.specs.declared.progress.Progress.{Progress}
use Rattle.mich_replay.specs.declared.steps.Event.{Event}
use Rattle.mich_replay.specs.declared.steps.Event.TheVariants as event
use Rattle.mich_replay.proofs.Coming.{reads_fresh, reads_fed, reads_more, reads_end, reads_fault, reads_further, reads_short, reads_place, reads_taken, reads_stopped}
use Rattle.mich_replay.proofs.Marked.{marks_more}
use Rattle.mich_replay.proofs.Written.{front_then, lines-more, writes_front, writes_nothing, writes_then}

-- ---- sessions

groups_followed : (c : Option Course) (from : Option PlainCourse) → FollowsIf c from → groups_of c ≡ groups_in from
groups_followed None None f = refl
groups_followed (Some c) (Some p) f = f.groups
groups_followed None (Some p) f = absurd f
groups_followed (Some c) None f = absurd f

-- a replay that was fed nothing
came_fresh : (from : Option PlainCourse) (c : Progress) → MayGoOn from c.course → AreMarks [] c.marks → Came from [] false fresh c []
came_fresh from c h m = record {
  statements = [];
  plain = from;
  reads = reads_fresh from;
  stands = record { follows = h.follows; count = omega (arith, groups_followed c.course from h.follows) };
  marks = m;
  room = h.few;
}

pub came_new : (from : Option PlainCourse) (r : Held) (c : Progress) → r ≡ fresh → MayGoOn from c.course → c.marks.costs_stood ≡ false → c.marks.started ≡ false →
    Came from [] false r c []
came_new from r c e h costs started = subst (λ (x : Held). Came from [] false x c []) (sym e) (came_fresh from c h (record { costs_stood = costs; started = started }))

pub may_begin : MayGoOn None None
may_begin = record { follows = tt; few = omega arith }

pub may_go_on : (c : Course) (p : PlainCourse) → Follows c p → p.groups < 2 ^ 63 → MayGoOn (Some p) (Some c)
may_go_on c p f few = record { follows = f; few = few }

module _ (from : Option PlainCourse) where
  pub came_fed : (bytes piece : List ℕ) (last : Bool) (r : Held) (c : Progress) (receipts : List Receipt) → Came from bytes false r c receipts →
      Came from (bytes ++ piece) last (fed r piece) c receipts
  came_fed bytes piece last r c receipts h = record {
    statements = h.statements;
    plain = h.plain;
    reads = reads_fed from bytes h.statements receipts h.plain piece last r h.reads;
    stands = h.stands;
    marks = h.marks;
    room = h.room;
  }

  -- there may be one more group
  pub room : (bytes : List ℕ) (last : Bool) (r : Held) (c : Progress) (receipts : List Receipt) → Came from bytes last r c receipts → HasRoom c.course
  room bytes last r c receipts h =
      let count = h.stands.count in
      let few = h.reads.few in
      let short = h.reads.short in
      let before = h.room in
      omega (arith, count, few, short, before)

module _ (from : Option PlainCourse) (bytes : List ℕ) (last : Bool) (r s : Held) (receipts : List Receipt) (old : Progress) (h : Came from bytes last r old receipts) where
  pub more_happens : IsNext r last s (Ok next.More) → Happens from bytes last receipts r.place s old (Ok event.More)
  more_happens n =
      let x = reads_more from bytes last r s h.statements receipts h.plain h.reads n in
      (x.0, record { statements = h.statements; plain = h.plain; reads = x.1; stands = h.stands; marks = h.marks; room = h.room }, x.2, x.3)

  pub end_happens : IsNext r last s (Ok next.End) → Happens from bytes last receipts r.place s old (Ok event.End)
  end_happens n =
      let x = reads_end from bytes last r s h.statements receipts h.plain h.reads n in
      (record { statements = h.statements; plain = h.plain; reads = x.0; stands = h.stands; marks = h.marks; room = h.room }, x.1, x.2)

  pub fault_happens : (kind : TextKind) (at : ℕ) → IsNext r last s (Err (texts.Fault kind at)) → IsRefused from bytes last receipts (Rattle.rules_files.specs.commands.Replay.TextFault kind) at
  fault_happens kind at n = reads_fault from bytes last r s h.statements receipts h.plain h.reads kind at n

  module _ (placed : Placed) (n : IsNext r last s (Ok (next.Placed placed))) where
    pub small : size (tree placed.node) < 2 ^ 32
    small =
        let far = reads_further from bytes last r s h.statements receipts h.plain h.reads placed n in
        let short = reads_short from bytes last r s h.statements receipts h.plain h.reads placed n in
        omega (arith, far, short)

    further : r.place < s.place
    further =
        let far = reads_further from bytes last r s h.statements receipts h.plain h.reads placed n in
        let place = reads_place from bytes last r s h.statements receipts h.plain h.reads placed n in
        omega (arith, far, place)

    abbrev this : PlainPlaced
    this = record { place = placed.start; node = tree placed.node }

    came_behind : (new : Progress) (rs : List Receipt) (p : Option PlainCourse) → taken receipts h.plain placed.start (form (tree placed.node)) ≡ going rs p →
        length rs ≤ length receipts + 1 → Stands (groups_in from) rs p new.course → new.marks ≡ marked old.marks (form (tree placed.node)) → Came from bytes last s new rs
    came_behind new rs p e few stands marks = record {
      statements = h.statements ++ this ∷ [];
      plain = p;
      reads = reads_taken from bytes last r s h.statements receipts h.plain h.reads placed n rs p e few;
      stands = stands;
      marks = marks_more h.statements this old.marks new.marks h.marks marks;
      room = h.room;
    }

    pub statement_happens : (new : Progress) (result : Result Event Memory) →
        IsTaken (groups_in from) receipts placed.start (taken receipts h.plain placed.start (form (tree placed.node))) new.course result →
        OnOk result (new.marks ≡ marked old.marks (form (tree placed.node))) → Happens from bytes last receipts r.place s new result
    statement_happens new result t m = by (taken receipts h.plain placed.start (form (tree placed.node))) refl result t m
      where
        by : (x : Run) → taken receipts h.plain placed.start (form (tree placed.node)) ≡ x → (e : Result Event Memory) →
            IsTaken (groups_in from) receipts placed.start x new.course e → OnOk e (new.marks ≡ marked old.marks (form (tree placed.node))) → Happens from bytes last receipts r.place s new e
        by (going rs p) e (Ok event.Taken) t m =
            (subst (Came from bytes last s new) t.0 (came_behind new rs p e (omega (arith, ap (λ (l : List Receipt). length l) t.0)) t.1 m), further)
        by (going rs p) e (Ok (event.Group told)) t m = (
          t.0,
          t.1,
          subst (Came from bytes last s new) t.2
              (came_behind new rs p e (omega (arith, ap (λ (l : List Receipt). length l) t.2, length-append receipts (t.0 ∷ []))) t.3 m),
          further,
        )
        by (going rs p) e (Ok event.More) t m = absurd t
        by (going rs p) e (Ok event.End) t m = absurd t
        by (going rs p) e (Ok (event.Refused fault at)) t m = absurd t
        by (going rs p) e (Err x) t m = tt
        by (stopped rs f at) e (Ok event.Taken) t m = absurd t
        by (stopped rs f at) e (Ok (event.Group told)) t m = absurd t
        by (stopped rs f at) e (Ok event.More) t m = absurd t
        by (stopped rs f at) e (Ok event.End) t m = absurd t
        by (stopped rs f at) e (Ok (event.Refused fault here)) t m =
            reads_stopped from bytes last r s h.statements receipts h.plain h.reads placed n (file_fault_seen fault) here
            (e ∙ ap (λ (l : List Receipt). stopped l f at) t.0 ∙ ap (λ (g : FileFault). stopped receipts g at) t.1 ∙ ap (λ (k : ℕ). stopped receipts (file_fault_seen fault) k) t.2)
        by (stopped rs f at) e (Err x) t m = tt
        by stuck_run e (Ok event.Taken) t m = absurd t
        by stuck_run e (Ok (event.Group told)) t m = absurd t
        by stuck_run e (Ok event.More) t m = absurd t
        by stuck_run e (Ok event.End) t m = absurd t
        by stuck_run e (Ok (event.Refused fault here)) t m = absurd t
        by stuck_run e (Err x) t m = tt

-- ---- lines

one_more : (groups : ℕ) (receipts : List Receipt) (found : Receipt) (n : ℕ) → n ≡ groups + length (receipts ++ found ∷ []) →
    group_lines (groups + 1) (receipts ++ found ∷ []) ≡ group_lines (groups + 1) receipts ++ line (group_node n found) ∷ []
one_more groups receipts found n e =
    let number : length receipts + (groups + 1) ≡ n = omega (arith, e, length-append receipts (found ∷ [])) in
    lines-more (groups + 1) receipts (found ∷ []) ∙ ap (λ (k : ℕ). group_lines (groups + 1) receipts ++ line (group_node k found) ∷ []) number

module _ (from : Option PlainCourse) (bytes : List ℕ) (last : Bool) (r : Held) (c : Progress) (receipts : List Receipt) (found : Receipt)
    (h : Came from bytes last r c (receipts ++ found ∷ [])) (before now after : Output) (p : Writes before now (group_lines (groups_in from + 1) receipts)) where
  pub told_more : Writes now after (line (group_node (groups_of c.course) found) ∷ []) → Told from bytes last before after r c
  told_more q = record {
    receipts = receipts ++ found ∷ [];
    came = h;
    lines = subst (Writes before after) (sym (one_more (groups_in from) receipts found (groups_of c.course) h.stands.count))
        (writes_then before now after (group_lines (groups_in from + 1) receipts) (line (group_node (groups_of c.course) found) ∷ []) p q);
  }

  pub cut_more : WritesFront now after (line (group_node (groups_of c.course) found) ∷ []) → Cut from bytes last before after
  cut_more q = record {
    statements = h.statements;
    receipts = receipts ++ found ∷ [];
    plain = h.plain;
    place = r.place;
    begun = h.reads.begun;
    lines = subst (WritesFront before after) (sym (one_more (groups_in from) receipts found (groups_of c.course) h.stands.count))
        (front_then before now after (group_lines (groups_in from + 1) receipts) (line (group_node (groups_of c.course) found) ∷ []) p q);
  }

-- all of the lines were written, so a front of them was
pub told_cut : (from : Option PlainCourse) (bytes : List ℕ) (last : Bool) (before now : Output) (r : Held) (c : Progress) → Told from bytes last before now r c → Cut from bytes last before now
told_cut from bytes last before now r c h = record {
  statements = h.came.statements;
  receipts = h.receipts;
  plain = h.came.plain;
  place = r.place;
  begun = h.came.reads.begun;
  lines = writes_front before now (group_lines (groups_in from + 1) h.receipts) h.lines;
}

-- nothing was told yet
pub told_nothing : (from : Option PlainCourse) (bytes : List ℕ) (last : Bool) (a : Output) (r : Held) (c : Progress) → Came from bytes last r c [] → Told from bytes last a a r c
told_nothing from bytes last a r c h = record { receipts = []; came = h; lines = writes_nothing a }

-- a piece is fed
pub told_fed : (from : Option PlainCourse) (bytes piece : List ℕ) (last : Bool) (before now : Output) (r s : Held) (c d : Progress) (h : Told from bytes false before now r c) →
    Came from (bytes ++ piece) last s d h.receipts → Told from (bytes ++ piece) last before now s d
told_fed from bytes piece last before now r s c d h came = record { receipts = h.receipts; came = came; lines = h.lines }

-- a piece was read: it follows what was read before, and where it is empty nothing is left
pub piece_read : (content left after : Option (List ℕ)) (bytes piece taken : List ℕ) → piece ≡ taken → Consumes content left bytes → Consumes left after taken →
    Consumes content after (bytes ++ piece)
piece_read content left after bytes piece taken e p q = Consumes-trans content left after bytes piece p (subst (Consumes left after) (sym e) q)
