use Rattle.std.proofs.Common.{◌≡◌, ℕ, List, ◌++◌, ap, subst, ◌∙◌}
use Rattle.std.proofs.lemmas.Int.{to_z-of_z}
use Rattle.std.specs.Int.{w128}
use Rattle.std.specs.Prelude.{OnOk}
use Rattle.rules_files.specs.snapshots.Spelling.{signed}
use Rattle.mich_saved.proofs.writing.put_signed_sixteen.Goals as goal

pub returns : goal.returns
returns c =
    let bytes : c.to_be_bytes.result ≡ signed w128 c.args.number = c.to_be_bytes.ensures ∙ ap (signed w128) (to_z-of_z w128 c.args.number c.ranges.number) in
    subst (λ (x : List ℕ). OnOk c.put.result (c.put.new.out.items ≡ c.args.out.now.items ++ x)) bytes c.put.ensures
