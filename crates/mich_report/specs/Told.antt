-- The nodes of what is told of a group: those of its receipt, where what FAILWITH shows is told by nodes.
use Rattle.std.specs.Prelude.{ℕ, [], ◌∷◌, map, codes}
use Rattle.rules_text.specs.nodes.Tree.{Tree}
use Rattle.rules_world.specs.lines.Nodes.{over, word, number, sequence, failure_node, effect_node, fault_node}
use Rattle.mich_ops.specs.Told.{Told, shown, plain, ToldStatus, Applied, Backtracked, Failed, Skipped, ToldReceipt, Refused, Done}

abbrev pub told_node : Told → Tree
told_node (shown kind value) = over (codes "FailedWith") (kind ∷ value ∷ [])
told_node (plain failure) = failure_node failure

abbrev pub told_status_node : ToldStatus → Tree
told_status_node (Applied gas effects) = over (codes "Applied") (number gas ∷ sequence (map effect_node effects) ∷ [])
told_status_node Backtracked = word (codes "Backtracked")
told_status_node (Failed count failure) = over (codes "Failed") (number count ∷ told_node failure ∷ [])
told_status_node Skipped = word (codes "Skipped")

abbrev pub told_receipt_node : ToldReceipt → Tree
told_receipt_node (Refused fault) = over (codes "Refused") (fault_node fault ∷ [])
told_receipt_node (Done statuses) = sequence (map told_status_node statuses)

abbrev pub told_group_node : ℕ → ToldReceipt → Tree
told_group_node n receipt = over (codes "Group") (number n ∷ told_receipt_node receipt ∷ [])
