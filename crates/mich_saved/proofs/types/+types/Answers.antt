use Rattle.std.proofs.Common.{sym, ◌∙◌}
use Rattle.std.proofs.lemmas.Result.{IfOk-weaker}
use Rattle.mich_saved.specs.declared.types.Shape.TheVariants as s
use Rattle.mich_saved.proofs.Levels.{level_is}
use Rattle.mich_saved.proofs.types.+types.Goals as goal

pub type_within-returns-in-Option : goal.type_within-returns-in-Option
type_within-returns-in-Option t c =
    let e = level_is c.args.levels c.args.bytes.now s.Option c.if-levels-eq0.false c.in-len1-up.len_at_least c.in-Option.ensures in
    IfOk-weaker c.option_within.result _ _ (λ o h. h ∙ sym e) c.option_within.ensures

pub type_within-returns-in-Two : goal.type_within-returns-in-Two
type_within-returns-in-Two t c =
    let e = level_is c.args.levels c.args.bytes.now (s.Two c.in-Two.joint) c.if-levels-eq0.false c.in-len1-up.len_at_least c.in-Two.ensures in
    IfOk-weaker c.two_within.result _ _ (λ o h. h ∙ sym e) c.two_within.ensures
