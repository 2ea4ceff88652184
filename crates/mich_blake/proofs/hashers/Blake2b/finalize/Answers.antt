use Rattle.std.proofs.Common.{◌∙◌, arith, take}
use Rattle.mich_blake.proofs.Feeding.{digest_of, last_step}
use Rattle.mich_blake.proofs.hashers.Blake2b.finalize.Goals as goal

pub returns-clause-digest : goal.returns-clause-digest
returns-clause-digest c = λ len m was.
    let s = c.self.inside in
    c.of_hash.ensures.bytes
    ∙ digest_of (record { size = s.size; hash = s.hash; taken = s.taken; pending = take s.used s.block }) len m c.compress.new.h
    (c.self.view_is ∙ was)
    (last_step s.hash c.compress.new.h s.taken s.used s.block c.fill.new.self (omega arith) (omega arith)
    (c.fill.ensures.after (λ y e. e)) c.compress.ensures)
