-- How a file that comes in pieces is read, statement by statement.
use Rattle.std.proofs.Common.{◌≡◌, ℕ, ◌+◌, ◌-◌, ◌≤◌, ◌<◌, Bool, true, false, ◌||◌, List, [], ◌∷◌, ◌++◌, length, take, drop, Option, Result, Ok, Err, refl, sym, ap, ◌∙◌, subst, inr, append_assoc, append-nil, arith}
use Rattle.std.proofs.lemmas.List.{drop-append-le, drop-drop, length-append, length-drop, length-take-le, take-append-drop}
use Rattle.rules_text.specs.nodes.Limits.{file_limit}
use Rattle.rules_text.specs.nodes.Tree.{size}
use Rattle.rules_files.specs.course.Course.{Course as PlainCourse}
use Rattle.rules_text.specs.declared.text.TextKind.{TextKind}
use Rattle.rules_files.specs.commands.Places.{Placed, IsNodeAt, IsEndAt, AreStatements}
use Rattle.rules_files.specs.commands.Replay.{Closes, FileFault, TextFault, RefusedAt, Run, going, stopped, taken, run_one, run_all}
use Rattle.rules_files.specs.statements.Statements.{form}
use Rattle.rules_world.specs.world.Receipts.{Receipt}
use Rattle.mich_answers.proofs.ForCallers.{further, statements-more}
use Rattle.mich_base.specs.View.{tree}
use Rattle.mich_text.specs.declared.fault.TextError.{TextError}
use Rattle.mich_text.specs.declared.fault.TextError.TheVariants as texts
use Rattle.mich_text.specs.declared.reader.Placed.{Placed as CodePlaced}
use Rattle.mich_text.proofs.pieces_lemmas.ForCallers.{limit_le, pieces_tell}
use Rattle.mich_text.specs.pieces.Fronts.{IsClosed}
use Rattle.mich_text.specs.pieces.Held.{Held, fresh, fed}
use Rattle.mich_text.specs.pieces.Reading.{IsNext, Tells, asked}
use Rattle.mich_text.specs.declared.pieces.reader.Next.{Next}
use Rattle.mich_text.specs.declared.pieces.reader.Next.TheVariants as next
use Rattle.mich_replay.specs.Coming.{Begun, ComesTo, IsRefused, Reads}
use Rattle.mich_replay.specs.Pace.{NoneIsClosedAt}
use Rattle.mich_replay.proofs.Closed.{none_closed}

-- ---- runs

run-more : (r : Run) (ss : List Placed) (s : Placed) → run_all r (ss ++ s ∷ []) ≡ run_one (run_all r ss) s
run-more r [] s = refl
run-more r (t ∷ ts) s = run-more (run_one r t) ts s

-- ---- a reader that was fed nothing, and one that is fed a piece

pub reads_fresh : (from : Option PlainCourse) → Reads from [] false fresh [] [] from
reads_fresh from = record {
  begun = record { stand = λ more none. refl; run = refl };
  few = omega arith;
  bytes = refl;
  within = omega arith;
  short = omega arith;
  ends = λ e. absurd cc;
}

module _ (from : Option PlainCourse) (bytes : List ℕ) (ss : List Placed) (receipts : List Receipt) (plain : Option PlainCourse) where
  never : false ≡ true → ⊥
  never e = absurd cc

  pub reads_fed : (piece : List ℕ) (last : Bool) (r : Held) → Reads from bytes false r ss receipts plain → Reads from (bytes ++ piece) last (fed r piece) ss receipts plain
  reads_fed piece last r h = record {
    begun = record {
      stand = λ more none. subst (λ (l : List ℕ). AreStatements l 0 ss r.place) (sym (append_assoc bytes piece more)) (h.begun.stand (piece ++ more) (λ e. absurd (never e)));
      run = h.begun.run;
    };
    few = h.few;
    bytes = drop-append-le r.place bytes piece h.within ∙ ap (λ (l : List ℕ). l ++ piece) h.bytes;
    within = omega (arith, h.within, length-append bytes piece);
    short = h.short;
    ends = λ e. absurd (never (h.ends e));
  }

  pub not_ended : (r : Held) → Reads from bytes false r ss receipts plain → r.ended ≡ false
  not_ended r h = by r.ended refl where
    by : (b : Bool) → r.ended ≡ b → r.ended ≡ false
    by false e = e
    by true e = absurd (never (h.ends e))

-- ---- what a reader answers

module _ (from : Option PlainCourse) (bytes : List ℕ) (last : Bool) (r s : Held) (ss : List Placed) (receipts : List Receipt) (plain : Option PlainCourse) (h : Reads from bytes last r ss receipts plain) where
  -- what was taken, what is kept, and what is to come
  parts : (more : List ℕ) → take r.place bytes ++ (r.bytes ++ more) ≡ bytes ++ more
  parts more =
      sym (append_assoc (take r.place bytes) r.bytes more)
      ∙ ap (λ (l : List ℕ). l ++ more) (ap (λ (l : List ℕ). take r.place bytes ++ l) (sym h.bytes) ∙ take-append-drop r.place bytes)

  told : (answer : Result Next TextError) → IsNext r last s answer → (more : List ℕ) → (last ≡ true → more ≡ []) → Tells (bytes ++ more) r.place answer
  told answer n more none =
      subst (λ (l : List ℕ). Tells l r.place answer) (parts more)
      (pieces_tell (take r.place bytes) more r s last answer (length-take-le r.place bytes h.within) none (λ e. none (h.ends e)) n)

  closes : (fault : FileFault) (at to : ℕ) (ts : List Placed) (file : List ℕ) → AreStatements file 0 ts to →
      Closes file to (run_all (going [] from) ts) (record { receipts = receipts; ending = RefusedAt fault at }) → ComesTo from file (record { receipts = receipts; ending = RefusedAt fault at })
  closes fault at to ts file stand c = record { statements = ts; to = to; stand = stand; closes = c }

  -- ---- no statement

  pub reads_more : IsNext r last s (Ok next.More) → (last ≡ false) × Reads from bytes false s ss receipts plain × (length bytes ≤ file_limit) × NoneIsClosedAt bytes s.place
  reads_more n =
      let size : length bytes ≡ r.place + length r.bytes = omega (arith, ap (λ (l : List ℕ). length l) h.bytes, length-drop r.place bytes, h.within) in (
        n.0,
        subst (λ (x : Held). Reads from bytes false x ss receipts plain) (sym n.2) (subst (λ (b : Bool). Reads from bytes b r ss receipts plain) n.0 h),
        omega (arith, size, n.1.file),
        subst (λ (x : Held). NoneIsClosedAt bytes x.place) (sym n.2) (none_closed bytes r.place h.within (λ tree start end q. n.1.none tree start end (subst (λ (l : List ℕ). IsClosed r.place l tree start end) h.bytes q))),
      )

  pub reads_end : IsNext r last s (Ok next.End) → Reads from bytes true s ss receipts plain × (last ≡ true) × IsEndAt bytes s.place
  reads_end n =
      let here : IsEndAt bytes r.place = subst (λ (l : List ℕ). IsEndAt l r.place) (append-nil bytes) (told (Ok next.End) n [] (λ e. refl)) in
      let now : Reads from bytes true (asked r last) ss receipts plain = record {
        begun = subst (λ (b : Bool). Begun from bytes b ss receipts plain r.place) n.0 h.begun;
        few = h.few;
        bytes = h.bytes;
        within = h.within;
        short = h.short;
        ends = λ e. refl;
      } in
      (subst (λ (x : Held). Reads from bytes true x ss receipts plain) (sym n.2) now, n.0, subst (λ (x : Held). IsEndAt bytes x.place) (sym n.2) here)

  pub reads_fault : (kind : TextKind) (at : ℕ) → IsNext r last s (Err (texts.Fault kind at)) → IsRefused from bytes last receipts (TextFault kind) at
  reads_fault kind at n = λ more none.
      closes (TextFault kind) at r.place ss (bytes ++ more) (h.begun.stand more none)
      (subst (λ (x : Run). Closes (bytes ++ more) r.place x (record { receipts = receipts; ending = RefusedAt (TextFault kind) at })) (sym h.begun.run)
      (inr (kind, at, told (Err (texts.Fault kind at)) n more none, refl)))

  -- ---- a statement

  module _ (placed : CodePlaced) (n : IsNext r last s (Ok (next.Placed placed))) where
    node_at : (more : List ℕ) → (last ≡ true → more ≡ []) → IsNodeAt (bytes ++ more) r.place (tree placed.node) placed.start placed.end
    node_at more none = told (Ok (next.Placed placed)) n more none

    here : IsNodeAt bytes r.place (tree placed.node) placed.start placed.end
    here = subst (λ (l : List ℕ). IsNodeAt l r.place (tree placed.node) placed.start placed.end) (append-nil bytes) (node_at [] (λ e. refl))

    pub reads_further : (r.place < placed.end) × (size (tree placed.node) + r.place ≤ placed.end) × (placed.end ≤ length bytes)
    reads_further = further bytes r.place (tree placed.node) placed.start placed.end h.within here

    pub reads_short : placed.end ≤ file_limit
    reads_short =
        let all : r.place + length (drop r.place bytes) ≡ length bytes = omega (arith, length-drop r.place bytes, h.within) in
        limit_le r.place (drop r.place bytes) (tree placed.node) here.0 here.1 placed.end h.short here.2 (here.4 ∙ sym all)

    pub reads_place : s.place ≡ placed.end
    reads_place = ap (λ (x : Held). x.place) n.1

    abbrev all : List Placed
    all = ss ++ record { place = placed.start; node = tree placed.node } ∷ []

    all_stand : (more : List ℕ) → (last ≡ true → more ≡ []) → AreStatements (bytes ++ more) 0 all placed.end
    all_stand more none =
        statements-more (bytes ++ more) 0 r.place placed.end ss (record { place = placed.start; node = tree placed.node }) (h.begun.stand more none) (node_at more none)

    behind : (x : Run) → taken receipts plain placed.start (form (tree placed.node)) ≡ x → run_all (going [] from) all ≡ x
    behind x e =
        run-more (going [] from) ss (record { place = placed.start; node = tree placed.node })
        ∙ ap (λ (y : Run). run_one y (record { place = placed.start; node = tree placed.node })) h.begun.run ∙ e

    ended_by : (a b : Bool) → (a ≡ true → b ≡ true) → (a || b) ≡ true → b ≡ true
    ended_by true b f e = f refl
    ended_by false b f e = e

    pub reads_taken : (more_receipts : List Receipt) (now : Option PlainCourse) → taken receipts plain placed.start (form (tree placed.node)) ≡ going more_receipts now →
        length more_receipts ≤ length receipts + 1 → Reads from bytes last s all more_receipts now
    reads_taken more_receipts now e few =
        let far = reads_further in
        let rest : r.place + (placed.end - r.place) ≡ placed.end = omega (arith, far) in
        subst (λ (x : Held). Reads from bytes last x all more_receipts now) (sym n.1) (record {
          begun = record { stand = all_stand; run = behind (going more_receipts now) e };
          few = omega (arith, few, h.few, far);
          bytes = sym (ap (drop (placed.end - r.place)) (sym h.bytes) ∙ drop-drop (placed.end - r.place) r.place bytes ∙ ap (λ (k : ℕ). drop k bytes) rest);
          within = far.2;
          short = reads_short;
          ends = ended_by r.ended last h.ends;
        })

    pub reads_stopped : (fault : FileFault) (at : ℕ) → taken receipts plain placed.start (form (tree placed.node)) ≡ stopped receipts fault at → IsRefused from bytes last receipts fault at
    reads_stopped fault at e = λ more none.
        closes fault at placed.end all (bytes ++ more) (all_stand more none)
        (subst (λ (x : Run). Closes (bytes ++ more) placed.end x (record { receipts = receipts; ending = RefusedAt fault at })) (sym (behind (stopped receipts fault at) e)) refl)
