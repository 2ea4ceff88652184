use Rattle.std.proofs.Common.{ℕ, ◌≤◌, ◌<◌, subst}
use Rattle.rules_text.specs.nodes.Limits.{statement_limit}
use Rattle.mich_text.proofs.pieces_lemmas.Tried.{past_statement, past_or_short}
use Rattle.mich_text.proofs.pieces.reader.is_past.Goals as goal

pub returns-then-statement_size-gt-STATEMENT_LIMIT : goal.returns-then-statement_size-gt-STATEMENT_LIMIT
returns-then-statement_size-gt-STATEMENT_LIMIT c =
    past_statement c.args.place c.args.held.now c.args.scan c.requires.scanned c.requires.done
    (subst (λ (n : ℕ). statement_limit < n) c.statement_size.ensures c.if-statement_size-gt-STATEMENT_LIMIT.true)

pub returns : goal.returns
returns c =
    past_or_short c.args.place c.args.held.now c.args.scan c.requires.scanned c.requires.done c.requires.place
    (subst (λ (n : ℕ). n ≤ statement_limit) c.statement_size.ensures c.if-statement_size-gt-STATEMENT_LIMIT.false)
