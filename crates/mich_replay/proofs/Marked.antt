-- Marks of statements.
use Rattle.std.proofs.Common.{◌≡◌, ◌||◌, Bool, true, false, List, [], ◌∷◌, ◌++◌, Option, Some, None, Result, Ok, Err, refl, sym, ap, ◌∙◌}
use Rattle.std.proofs.lemmas.Grind.{flat_map-append}
use Rattle.std.proofs.lemmas.List.Folds.{list_any-append}
use Rattle.std.specs.List.{list_any}
use Rattle.std.specs.Prelude.{OnOk}
use Rattle.rules_files.specs.commands.Places.{Placed}
use Rattle.rules_files.specs.commands.Snapshots.{as_list, statements_of}
use Rattle.rules_files.specs.snapshots.Course.{is_costs, is_start}
use Rattle.rules_files.specs.statements.Statements.{Statement, form}
use Rattle.mich_replay.specs.Marks.{AreMarks, marked}
use Rattle.mich_replay.specs.declared.progress.Marks.{Marks}

one_more : (ss : List Placed) (s : Placed) → statements_of (ss ++ s ∷ []) ≡ statements_of ss ++ as_list (form s.node)
one_more ss s = flat_map-append (λ (p : Placed). as_list (form p.node)) ss (s ∷ []) ∙ ap (λ (l : List Statement). statements_of ss ++ l) (nothing_behind (as_list (form s.node))) where
  nothing_behind : (l : List Statement) → l ++ [] ≡ l
  nothing_behind [] = refl
  nothing_behind (x ∷ xs) = ap (λ (l : List Statement). x ∷ l) (nothing_behind xs)

or_nothing : (b : Bool) → (b || false) ≡ b
or_nothing true = refl
or_nothing false = refl

any_more : (test : Statement → Bool) (ss : List Statement) (s : Statement) → list_any test (ss ++ s ∷ []) ≡ (list_any test ss || test s)
any_more test ss s = list_any-append test ss (s ∷ []) ∙ ap (λ (b : Bool). list_any test ss || b) (or_nothing (test s))

any_none : (test : Statement → Bool) (ss : List Statement) → list_any test (ss ++ []) ≡ list_any test ss
any_none test ss = list_any-append test ss [] ∙ or_nothing (list_any test ss)

marks_of : (ss : List Statement) (o : Option Statement) (m n : Marks) → AreMarks ss m → n ≡ marked m o → AreMarks (ss ++ as_list o) n
marks_of ss (Some s) m n h e = record {
  costs_stood = ap (λ (x : Marks). x.costs_stood) e ∙ ap (λ (b : Bool). b || is_costs s) h.costs_stood ∙ sym (any_more is_costs ss s);
  started = ap (λ (x : Marks). x.started) e ∙ ap (λ (b : Bool). b || is_start s) h.started ∙ sym (any_more is_start ss s);
}
marks_of ss None m n h e = record {
  costs_stood = ap (λ (x : Marks). x.costs_stood) e ∙ h.costs_stood ∙ sym (any_none is_costs ss);
  started = ap (λ (x : Marks). x.started) e ∙ h.started ∙ sym (any_none is_start ss);
}

-- behind one more statement
pub marks_more : (ss : List Placed) (s : Placed) (m n : Marks) → AreMarks (statements_of ss) m → n ≡ marked m (form s.node) → AreMarks (statements_of (ss ++ s ∷ [])) n
marks_more ss s m n h e = rw (one_more ss s) (marks_of (statements_of ss) (form s.node) m n h e)

-- what holds, holds where it goes on
pub marks_kept : {T E P : Type 0} → (r : Result T E) → P → OnOk r P
marks_kept (Ok x) h = h
marks_kept (Err e) h = tt
