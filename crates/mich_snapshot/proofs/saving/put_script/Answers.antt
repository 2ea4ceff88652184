use Rattle.std.proofs.Common.{◌≡◌, ap, ◌∙◌, subst}
use Rattle.rules_text.specs.nodes.Tree.{Tree}
use Rattle.rules_files.specs.snapshots.Loading.{is_long}
use Rattle.rules_files.specs.snapshots.Spelling.{node_spelling}
use Rattle.mich_base.specs.View.{tree}
use Rattle.mich_instr.specs.View.{script_node}
use Rattle.mich_instr.specs.declared.instr.Script.{out-Script}
use Rattle.mich_snapshot.specs.Puts.{IsPut}
use Rattle.mich_snapshot.proofs.Parts.{script_tree}
use Rattle.mich_snapshot.proofs.saving.put_script.Goals as goal

pub returns : goal.returns
returns c =
    let same : tree (out-Script c.get.result.now).node ≡ script_node c.args.script.now = script_tree c.get.result.now ∙ ap script_node c.get.ensures in
    subst (λ (t : Tree). IsPut c.args.out.now.items c.put_node.new.out.items (node_spelling t) (is_long t) c.put_node.result) same c.put_node.ensures
