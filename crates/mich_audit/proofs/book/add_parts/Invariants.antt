use Rattle.std.proofs.Common.{List}
use Rattle.std.specs.List.{AllByRecursion}
use Rattle.rules_audit.specs.Fields.{Part}
use Rattle.rules_audit.specs.Lines.{Line}
use Rattle.mich_audit.specs.Tallies.{AreKept, HasForm}
use Rattle.mich_audit.specs.View.{parts_seen}
use Rattle.mich_audit.proofs.Added.{Added}
use Rattle.mich_audit.proofs.book.add_parts.Given as goal

-- the parts so far were added
abbrev pub invariant-parts : goal.invariant-parts
invariant-parts l =
    (ps : List Part) (ls : List Line) → AreKept ps ls l.fn.book.entries → AllByRecursion (λ p. HasForm p.identity) (parts_seen l.parts) → Added ps ls l.parts l.part-index l.book.entries
