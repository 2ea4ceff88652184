-- The bodies of lambdas in a literal are sequences, and no larger than it.
use Rattle.std.proofs.Common.{◌≡◌, ℕ, ◌<◌, ◌^◌, List, [], ◌∷◌, arith}
use Rattle.rules_text.specs.nodes.Tree.{Tree, size}
use Rattle.rules_data.specs.types.Kind.{Kind}
use Rattle.rules_data.specs.values.Val.{Val}
use Rattle.rules_data.specs.values.Literals.{Pending, body, claim, good, read}
use Rattle.laws_typing.specs.literals.Laws.{AllAtMost}
use Rattle.laws_typing.proofs.literals_lemmas.ForCallers.{bodies_within}
use Rattle.mich_check.specs.Pending.{AreSequences}
use Rattle.mich_check.proofs.Sequences.{read_sequences}
use Rattle.mich_literals.specs.unpacking.Pending.{AreBodies}

bodies_of : (n : ℕ) (ps : List Pending) → n < 2 ^ 32 → AreSequences ps → AllAtMost n ps → AreBodies ps
bodies_of n [] m h g = tt
bodies_of n (body l a r b t ∷ ps) m h g = let e = g.0 in (h.0, omega (arith, e, m), bodies_of n ps m h.1 g.1)
bodies_of n (claim l b a ∷ ps) m h g = bodies_of n ps m h g

pub read_bodies : (a : Kind) (at : ℕ) (t : Tree) (x : Val) (ps : List Pending) → size t < 2 ^ 32 → read a at t ≡ good x ps → AreBodies ps
read_bodies a at t x ps m e = bodies_of (size t) ps m (read_sequences a at t x ps e) (bodies_within a at t x ps e)
