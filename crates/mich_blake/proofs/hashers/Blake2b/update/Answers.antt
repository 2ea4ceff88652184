use Rattle.std.proofs.Common.{ap, ◌∙◌}
use Rattle.mich_blake.specs.Hasher.{Hasher, count_of}
use Rattle.mich_blake.proofs.Feeding.{count_of-fed, fed-size, hasher_of-fed}
use Rattle.mich_blake.proofs.hashers.Blake2b.update.Goals as goal

pub returns-clause-size : goal.returns-clause-size
returns-clause-size c = ap (λ (x : Hasher). x.size) c.feed.ensures ∙ fed-size c.args.self.now c.args.bytes.now

pub returns-clause-count : goal.returns-clause-count
returns-clause-count c = ap count_of c.feed.ensures ∙ count_of-fed c.args.self.now c.args.bytes.now

pub returns-clause-fed : goal.returns-clause-fed
returns-clause-fed c = λ len m was. c.feed.ensures ∙ hasher_of-fed c.args.self.now len m c.args.bytes.now was
