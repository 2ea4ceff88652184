use Rattle.std.proofs.Common.{refl, subst, sym}
use Rattle.std.specs.Prelude.{IfSome, Option, is_some}
use Rattle.rules_files.specs.snapshots.Rules.{is_contract}
use Rattle.mich_base.specs.View.{tree}
use Rattle.mich_instr.specs.declared.instr.Script.{Script}
use Rattle.mich_snapshot.specs.Holders.{IsScriptOf}
use Rattle.mich_snapshot.specs.Sums.{Finds, more_contract}
use Rattle.mich_snapshot.proofs.holders.sound_contract.Goals as goal

pub returns-in_default-clause-tries : goal.returns-in_default-clause-tries
returns-in_default-clause-tries c = λ s found k head h same.
    let told = subst (λ (o : Option Script). Finds s (is_contract s c.args.former.now k) (more_contract found k) c.sound_script.new.sums.found.entries
    (is_some o)) c.in_default.is
    (c.in_ok-script.ensures.rules s found k head h same) in
    (sym told.0, refl)

pub returns-clause-tries : goal.returns-clause-tries
returns-clause-tries c = λ s found k head h same.
    let told = subst (λ (o : Option Script). Finds s (is_contract s c.args.former.now k) (more_contract found k) c.sound_script.new.sums.found.entries
    (is_some o)) c.in-Some.is
    (c.in_ok-script.ensures.rules s found k head h same) in
    let typed = subst (λ (o : Option Script). IfSome o (IsScriptOf (tree c.args.contract.script))) c.in-Some.is c.in_ok-script.ensures.typed in
    (sym told.0, (c.in_ok-saved.ensures.same k same typed.0, told.1 refl))
