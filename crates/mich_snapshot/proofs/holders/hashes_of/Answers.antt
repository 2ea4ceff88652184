use Rattle.std.proofs.Common.{◌≡◌, ◌∙◌, List, ℕ, map, take, sym, subst, arith}
use Rattle.std.proofs.lemmas.Grind.{common_steps}
use Rattle.rules_code.specs.evaluation.Surroundings.{Contract}
use Rattle.mich_world.specs.Restoring.{contract_of}
use Rattle.mich_world.specs.declared.restoring.SavedContract.{SavedContract}
use Rattle.mich_snapshot.specs.Holders.{AreHashes}
use Rattle.mich_snapshot.proofs.Hashes.{hashes_go}
use Rattle.mich_snapshot.proofs.Left.{one_taken}
use Rattle.mich_snapshot.proofs.holders.hashes_of.Goals as goal

pub loop-saved-preserved : goal.loop-saved-preserved
loop-saved-preserved c =
    let items = c.as_slice-saved-items.result.now in
    let i = c.loop-saved.saved-index in
    let x = c.saved-item.result in
    subst (λ (cs : List (List ℕ × Contract)). AreHashes cs c.insert.new.self.keys) (sym (one_taken contract_of items i x c.loop-saved-test.true c.saved-item.is))
    (hashes_go (map contract_of (take i items)) (contract_of x) c.loop-saved.hashes.keys c.insert.new.self.keys c.loop-saved.invariant c.in_ok-insert.ensures.keys)

pub returns : goal.returns
returns c =
    let items = c.as_slice-saved-items.result.now in
    let all : take c.loop-saved.saved-index items ≡ items = grind (arith, common_steps) in
    subst (λ (l : List SavedContract). AreHashes (map contract_of l) c.loop-saved.hashes.keys) (all ∙ c.as_slice-saved-items.ensures) c.loop-saved.invariant
