use Rattle.std.proofs.Common.{◌-◌, ◌&&◌, sym, ap, ◌∙◌}
use Rattle.mich_base.specs.TypeView.{kind}
use Rattle.mich_cert.specs.Counted.{is_updated}
use Rattle.mich_cert.proofs.Counts.{updated_step}
use Rattle.mich_cert.proofs.counted.+is_updated.Goals as goal

pub returns-then-same_kind-2 : goal.returns-then-same_kind-2
returns-then-same_kind-2 t c =
    let n = c.args.n in
    let x = kind c.args.part.now in
    let b = kind c.in-Some.second.now in
    let f = kind c.in-Some-two_parts.rest.now in
    c.is_updated.ensures
    ∙ sym (ap (λ q. q && is_updated (n - 2) x b f) (sym c.same_kind-2.ensures ∙ c.if-same_kind-2.true))
    ∙ sym (
    updated_step n x (kind c.args.comb.now) (kind c.args.other.now) (kind c.in-Some.first.now) b (kind c.in-Some-two_parts.new.now) f
    c.if-n-eq0.false c.if-n-eq1.false c.in-Some.ensures c.in-Some-two_parts.ensures
    )
