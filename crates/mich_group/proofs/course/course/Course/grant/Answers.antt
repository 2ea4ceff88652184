use Rattle.std.proofs.Common.{◌≡◌, Err, refl}
use Rattle.mich_world.specs.declared.errors.GrantError.TheVariants as grant
use Rattle.mich_group.proofs.course_lemmas.Steps.{granted, repeated, too_much}
use Rattle.mich_group.proofs.course.course.Course.grant.Goals as goal

pub returns-in-Ok-clause-goes : goal.returns-in-Ok-clause-goes
returns-in-Ok-clause-goes c = λ p f.
    granted c.args.self.now _ c.args.who c.args.mutez c.grant.result f c.requires.who c.grant.ensures.others c.grant.ensures.answer c.in-Ok.is refl refl refl

pub returns-in-Err-RepeatedAccount-clause-goes : goal.returns-in-Err-RepeatedAccount-clause-goes
returns-in-Err-RepeatedAccount-clause-goes c = λ p f.
    let a = c.in-Err-RepeatedAccount.is in
    let b = c.in-Err-RepeatedAccount.field-0-is in
    let e : c.grant.result ≡ Err grant.RepeatedAccount = cc in
    repeated c.args.self.now _ c.args.who c.args.mutez c.grant.result f c.requires.who c.grant.ensures.others c.grant.ensures.answer e

pub returns-in-Err-SupplyLimit-clause-goes : goal.returns-in-Err-SupplyLimit-clause-goes
returns-in-Err-SupplyLimit-clause-goes c = λ p f.
    let a = c.in-Err-SupplyLimit.is in
    let b = c.in-Err-SupplyLimit.field-0-is in
    let e : c.grant.result ≡ Err grant.SupplyLimit = cc in
    too_much c.args.self.now _ c.args.who c.args.mutez c.grant.result f c.requires.who c.grant.ensures.others c.grant.ensures.answer e
