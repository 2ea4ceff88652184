use Rattle.std.proofs.Common.{subst}
use Rattle.rules_text.specs.nodes.Tree.{Tree}
use Rattle.rules_code.specs.instructions.Straight.{on_hashes}
use Rattle.mich_instr.specs.Code as made
use Rattle.mich_overload.specs.View.{hash_row}
use Rattle.mich_overload.specs.declared.simple.HashRow.{HashRow}
use Rattle.mich_interpreter.specs.Ends.{Comes, Meets}
use Rattle.mich_interpreter.proofs.hashing.act_packing.Goals as goal

pub act_unpack-requires : goal.act_unpack-requires
act_unpack-requires c =
    subst (λ (row : HashRow). (app : Tree) × Comes (made.straight (on_hashes (hash_row row)) app) c.args.costs.now c.args.m.now) c.in-Unpack.is c.requires

pub returns-in_ok-act_unpack-in-Unpack-clause-acts : goal.returns-in_ok-act_unpack-in-Unpack-clause-acts
returns-in_ok-act_unpack-in-Unpack-clause-acts c = λ app x fs d Z o h.
    c.in_ok-act_unpack-in-Unpack.ensures.acts app x fs d Z o
    (subst (λ (row : HashRow). Meets (made.straight (on_hashes (hash_row row)) app) x c.args.costs.now c.args.m.now fs d Z o) c.in-Unpack.is h)
