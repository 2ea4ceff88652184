-- What is told of a receipt has the receipt's nodes.
use Rattle.std.proofs.Common.{◌≡◌, ℕ, List, [], ◌∷◌, map, refl, ap, sym, ◌∙◌}
use Rattle.std.specs.Prelude.{codes}
use Rattle.rules_text.specs.nodes.Tree.{Tree}
use Rattle.rules_code.specs.steps.Failure as f
use Rattle.rules_world.specs.world.Receipts.{Status, Applied, Backtracked, Failed, Skipped, Receipt, Refused, Done}
use Rattle.rules_world.specs.lines.Nodes.{over, number, line, sequence, failure_node, status_node, receipt_node, group_node}
use Rattle.mich_ops.specs.Told.{ToldReceipt, told, told_status, told_receipt}
use Rattle.mich_report.specs.Told.{told_node, told_status_node, told_receipt_node, told_group_node}

failure_told : (why : f.Failure) → told_node (told why) ≡ failure_node why
failure_told (f.failed_with kind value) = refl
failure_told f.out_of_gas = refl
failure_told f.integer_limit = refl
failure_told f.mutez_overflow = refl
failure_told f.shift_limit = refl
failure_told f.size_limit = refl
failure_told f.depth_limit = refl
failure_told f.too_many_operations = refl
failure_told f.operation_replay = refl
failure_told f.no_contract = refl
failure_told f.no_entrypoint = refl
failure_told (f.bad_parameter location) = refl
failure_told f.balance_too_low = refl
failure_told f.empty_transaction = refl
failure_told (f.ill_typed location) = refl
failure_told (f.bad_storage location) = refl
failure_told f.unregistered_delegate = refl
failure_told f.ticket_short = refl
failure_told f.cannot_pay_burn = refl

status_told : (s : Status) → told_status_node (told_status s) ≡ status_node s
status_told (Applied gas effects) = refl
status_told Backtracked = refl
status_told (Failed count why) = ap (λ (t : Tree). over (codes "Failed") (number count ∷ t ∷ [])) (failure_told why)
status_told Skipped = refl

statuses_told : (ss : List Status) → map told_status_node (map told_status ss) ≡ map status_node ss
statuses_told [] = refl
statuses_told (s ∷ ss) = ap (λ (t : Tree). t ∷ map told_status_node (map told_status ss)) (status_told s) ∙ ap (λ (ts : List Tree). status_node s ∷ ts) (statuses_told ss)

receipt_told : (r : Receipt) → told_receipt_node (told_receipt r) ≡ receipt_node r
receipt_told (Refused fault) = refl
receipt_told (Done statuses) = ap sequence (statuses_told statuses)

-- the line of what is told is that of the receipt
pub told_line : (n : ℕ) (t : ToldReceipt) (r : Receipt) → told_receipt r ≡ t → line (told_group_node n t) ≡ line (group_node n r)
told_line n t r e = ap (λ (x : ToldReceipt). line (told_group_node n x)) (sym e) ∙ ap (λ (x : Tree). line (over (codes "Group") (number n ∷ x ∷ []))) (receipt_told r)
