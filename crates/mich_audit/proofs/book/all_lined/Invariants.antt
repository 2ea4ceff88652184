use Rattle.std.proofs.Common.{◌≡◌}
use Rattle.std.specs.List.{list_all}
use Rattle.mich_audit.proofs.book.all_lined.Given as goal

-- those so far have lines
abbrev pub invariant-tickets : goal.invariant-tickets
invariant-tickets l = list_all (λ e. e.1.has_line) l._key-iterator ≡ list_all (λ e. e.1.has_line) l.book.entries
