use Rattle.std.proofs.Common.{rules, ◌≡◌, ℤ, true, false, ap, ◌∙◌}
use Rattle.std.specs.Prelude.{is_some}
use Rattle.std.specs.BTreeMap.{is_at}
use Rattle.std.specs.Cmp.Lexicographic.{slice_cmp}
use Rattle.std.specs.Map.{lookup}
use Rattle.std.specs.Ordering.{nat_cmp}
use Rattle.std.proofs.lemmas.Int.{to_z-of_z}
use Rattle.mich_base.specs.undo.Undone.{changed_at}
use Rattle.mich_report.specs.Amounts.{with_amount}
use Rattle.mich_report.proofs.Written.{purse_written, purse_added}
use Rattle.mich_report.proofs.gathering.add_held.Goals as goal

pub returns-then-branch : goal.returns-then-branch
returns-then-branch c = λ o j.
    let there : is_some (lookup (is_at (slice_cmp nat_cmp c.args.who)) c.args.purses.now.entries) ≡ true = search rules in
    purse_written o c.args.who j c.args.id.now c.args.amount c.args.purses.now.entries c.write_held.new.purses.entries
    (c.in_ok-write_held.ensures.new ∙ ap (λ (n : ℤ). changed_at (is_at (slice_cmp nat_cmp c.args.who)) c.args.purses.now.entries (with_amount c.args.id.now n)) (to_z-of_z _ _ c.ranges.amount)) there

pub returns : goal.returns
returns c = λ o j.
    let none : is_some (lookup (is_at (slice_cmp nat_cmp c.args.who)) c.args.purses.now.entries) ≡ false = search rules in
    purse_added o c.args.who j c.args.id.now c.args.amount c.args.purses.now.entries c.write_held.new.purses.entries c.insert.new.self.entries c.put.new.self
    (c.in_ok-write_held.ensures.new ∙ ap (λ (n : ℤ). changed_at (is_at (slice_cmp nat_cmp c.args.who)) c.args.purses.now.entries (with_amount c.args.id.now n)) (to_z-of_z _ _ c.ranges.amount)) none
    (c.in_ok-put.ensures ∙ ap (λ (n : ℤ). with_amount c.args.id.now n c.new-purse.result) (to_z-of_z _ _ c.ranges.amount) ∙ ap (with_amount c.args.id.now c.args.amount) c.new-purse.ensures) c.in_ok-insert.ensures.entries
