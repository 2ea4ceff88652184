use Rattle.std.proofs.Common.{◌≡◌, ℕ, ◌<◌, true, false, eqb, List, [], length, sym, subst, arith}
use Rattle.std.proofs.lemmas.Bool.{eqb-true, eqb-false}
use Rattle.std.proofs.lemmas.List.{nil_from_length}
use Rattle.std.proofs.lemmas.Result.{err_from_is_err_and}
use Rattle.rules_text.specs.text.Token.{Token}
use Rattle.mich_text.specs.Machine.{Stack}
use Rattle.mich_base.specs.View.{tree}
use Rattle.mich_text.specs.Nodes.{stack_view}
use Rattle.mich_text.proofs.readings.Reading.{At}
use Rattle.mich_text.proofs.readings.Comments.{comment_first}
use Rattle.mich_text.proofs.readings.Loop.{begun, failed, smaller, goes_on, comment, ends, last_node, none_left, open_left}
use Rattle.mich_text.proofs.plain.statement_at.Goals as goal

some_left : (here : List ℕ) → false ≡ eqb (length here) 0 → 0 < length here
some_left here e = omega (arith, eqb-false (length here) 0 (sym e))

none_left_of : (here : List ℕ) → true ≡ eqb (length here) 0 → here ≡ []
none_left_of here e = nil_from_length here (eqb-true (length here) 0 (sym e))

pub returns-in_default : goal.returns-in_default
returns-in_default c = rw c.unclosed.ensures (comment_first c.args.text.now (sym c.in_default.ensures))

pub tokens-init : goal.tokens-init
tokens-init c = begun c.args.text.now c.in-Some.first.now (stack_view c.in_ok-stack.stack.items) c.in-Some.ensures c.in_ok-stack.ensures

pub returns-in_err-behind : goal.returns-in_err-behind
returns-in_err-behind c =
    let p = err_from_is_err_and c.from_residual-in_err-behind.result c.from_residual-in_err-behind.ensures.1 in
    rw (p.1, p.2) (failed c.args.text.now c.tokens.here.now (stack_view c.tokens.stack.items) c.tokens.invariant c.in_err-behind.field-0.0
    (stack_view c.take_token.new.stack.items) (some_left c.tokens.here.now c.tokens-test.ensures) c.in_err-behind.ensures)

pub returns-in-Statement : goal.returns-in-Statement
returns-in-Statement c =
    let step = rw c.in-Statement.is at c.in_ok-behind.ensures in
    ends c.args.text.now c.tokens.here.now (stack_view c.tokens.stack.items) c.tokens.invariant
    (stack_view c.take_token.new.stack.items) c.in-Statement.behind c.in-Some.first.now (tree c.ended_node.result)
    (some_left c.tokens.here.now c.tokens-test.ensures) step c.in-Some.ensures c.ended_node.ensures

pub returns-in_default-after_gap : goal.returns-in_default-after_gap
returns-in_default-after_gap c =
    let step = rw c.in-Taken.is at c.in_ok-behind.ensures in
    rw c.unclosed-in_default-after_gap.ensures (comment c.args.text.now c.tokens.here.now
    (stack_view c.tokens.stack.items) c.tokens.invariant
    (stack_view c.take_token.new.stack.items) c.in-Taken.behind step c.in_default-after_gap.ensures)

pub tokens-smaller : goal.tokens-smaller
tokens-smaller c =
    let step = rw c.in-Taken.is at c.in_ok-behind.ensures in
    smaller c.args.text.now c.tokens.here.now (stack_view c.tokens.stack.items) c.tokens.invariant
    (stack_view c.take_token.new.stack.items) c.in-Taken.behind c.in-Some-after_gap.next.now step c.in-Some-after_gap.ensures

pub tokens-preserved : goal.tokens-preserved
tokens-preserved c =
    let step = rw c.in-Taken.is at c.in_ok-behind.ensures in
    goes_on c.args.text.now c.tokens.here.now (stack_view c.tokens.stack.items) c.tokens.invariant
    (stack_view c.take_token.new.stack.items) c.in-Taken.behind c.in-Some-after_gap.next.now step c.in-Some-after_gap.ensures

abbrev Ended : List ℕ → Stack → List ℕ → Type 0
Ended text s here = (ts : List Token) × At text ts here s

pub returns-then-has_statement : goal.returns-then-has_statement
returns-then-has_statement c =
    let s = stack_view c.tokens.stack.items in
    let at = subst (Ended c.args.text.now s) (none_left_of c.tokens.here.now c.tokens-test.ensures) c.tokens.invariant in
    last_node c.args.text.now s (stack_view c.finish.new.stack.items) at c.in_ok-finish.ensures c.in-Some.first.now
    (tree c.ended_node-then-has_statement.result) (sym c.if-has_statement.ensures) c.in-Some.ensures c.ended_node-then-has_statement.ensures

pub returns-then-is_root : goal.returns-then-is_root
returns-then-is_root c =
    let s = stack_view c.tokens.stack.items in
    let at = subst (Ended c.args.text.now s) (none_left_of c.tokens.here.now c.tokens-test.ensures) c.tokens.invariant in
    none_left c.args.text.now s (stack_view c.finish.new.stack.items) at c.in_ok-finish.ensures (sym c.if-has_statement.ensures)
    (sym c.if-is_root.ensures)

pub returns : goal.returns
returns c =
    let s = stack_view c.tokens.stack.items in
    let at = subst (Ended c.args.text.now s) (none_left_of c.tokens.here.now c.tokens-test.ensures) c.tokens.invariant in
    rw c.unclosed-else-is_root.ensures
    (open_left c.args.text.now s (stack_view c.finish.new.stack.items) at c.in_ok-finish.ensures (sym c.if-is_root.ensures))
