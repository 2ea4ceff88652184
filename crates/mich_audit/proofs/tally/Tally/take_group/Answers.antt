use Rattle.std.proofs.Common.{◌≡◌, ◌+◌, ◌&&◌, nat_le, true, pos, ℤ, refl, sym, ap, ◌∙◌, subst}
use Rattle.std.proofs.lemmas.Int.{to_z-of_z}
use Rattle.rules_audit.specs.Same.{same_number}
use Rattle.mich_audit.specs.View.{parts_seen}
use Rattle.mich_audit.proofs.Taken.{passed_as, group_done}
use Rattle.mich_audit.proofs.tally.Tally.take_group.Goals as goal

pub returns : goal.returns
returns c = λ before it forms.
    group_done before c.args.self.now it _ c.pass.new.self (parts_seen c.args.parts.now) (parts_seen c.as_slice.result.now) (ap parts_seen c.as_slice.ensures) forms c.pass.ensures.tickets.2
    c.in_ok-add_parts.ensures c.args.number
    (subst (λ (n : ℤ). (nat_le c.args.self.now.rank 1 && same_number n (pos (c.args.self.now.count + 1))) ≡ true) (to_z-of_z _ _ c.ranges.number)
    (sym c.follows_group.ensures ∙ c.if-not-follows_group.false))
    (passed_as c.args.self.now c.args.self.now _ c.pass.new.self 1 0 refl refl refl refl refl c.pass.ensures.passed) c.pass.ensures.fourth
    c.pass.ensures.tickets.0 c.pass.ensures.tickets.1
