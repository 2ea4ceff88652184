use Rattle.std.proofs.Common.{◌&&◌, ap, sym, ◌∙◌}
use Rattle.rules_files.specs.snapshots.Rules.{is_hash}
use Rattle.mich_snapshot.proofs.holders.hash_stands.Goals as goal

pub returns-then-hash_is_above : goal.returns-then-hash_is_above
returns-then-hash_is_above c = λ s e.
    c.hash_holds.ensures s e ∙ sym (ap (λ b. b && is_hash s c.args.hash.now) (sym c.hash_is_above.ensures ∙ c.if-hash_is_above.true))
