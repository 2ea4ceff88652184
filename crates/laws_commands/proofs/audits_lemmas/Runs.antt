-- What is printed of a run agrees.
use Rattle.std.proofs.Common.{◌≡◌, ◌≤◌, ◌+◌, ℕ, List, [], ◌∷◌, ◌++◌, map, length, Some, refl, sym, ap, ◌∙◌, subst}
use Rattle.std.specs.List.{AllByRecursion}
use Rattle.std.proofs.lemmas.List.{map-append}
use Rattle.rules_world.specs.world.Receipts.{Receipt}
use Rattle.rules_world.specs.world.World.{World}
use Rattle.rules_world.specs.lines.Nodes.{line, group_node, state_nodes}
use Rattle.rules_files.specs.commands.Replay.{Replay, State}
use Rattle.rules_files.specs.commands.Lines.{lines_of, text_of, ending_lines}
use Rattle.rules_files.specs.commands.Lines as replay
use Rattle.rules_audit.specs.Form.{audit_limit}
use Rattle.rules_audit.specs.Lines.{line_of}
use Rattle.rules_audit.specs.Verdicts.{agrees}
use Rattle.rules_audit.specs.Audits.{IsVerdict}
use Rattle.laws_commands.specs.audits.ToldLines.{group_lines, told_lines}
use Rattle.laws_commands.specs.audits.Receipts.{IsReceipt}
use Rattle.laws_commands.specs.audits.States.{state_lines}
use Rattle.laws_commands.specs.audits.Totals.{IsBehind}
use Rattle.laws_commands.specs.audits.Runs.{group_nodes, nodes_of, GoodRunsAgree}
use Rattle.laws_commands.proofs.audits_lemmas.FileLogs.{files_burn, files_tell}
use Rattle.laws_commands.proofs.audits_lemmas.Follows.{lines_follow, tickets_apart}
use Rattle.laws_commands.proofs.audits_lemmas.Groups.{group_lines_told}
use Rattle.laws_commands.proofs.audits_lemmas.Judged.{told_agree}
use Rattle.laws_commands.proofs.audits_lemmas.States.{state_told}
use Rattle.laws_commands.proofs.audits_lemmas.Worlds.{worlds_told}
use Rattle.laws_commands.proofs.audits_lemmas.Written.{judged}

groups_printed : (n : ℕ) (rs : List Receipt) → replay.group_lines n rs ≡ map line (group_nodes n rs)
groups_printed n [] = refl
groups_printed n (r ∷ rs) = ap (λ ls. line (group_node n r) ∷ ls) (groups_printed (n + 1) rs)

all_printed : (done : Replay) (w : World) → done.ending ≡ State w → lines_of done ≡ map line (nodes_of done.receipts w)
all_printed done w e =
    ap (λ x. replay.group_lines 1 done.receipts ++ ending_lines x) e
    ∙ ap (λ ls. ls ++ map line (state_nodes w)) (groups_printed 1 done.receipts)
    ∙ sym (map-append line (group_nodes 1 done.receipts) (state_nodes w))

groups_told : (n : ℕ) (rs : List Receipt) → AllByRecursion IsReceipt rs → map line_of (group_nodes n rs) ≡ map (λ l. Some l) (group_lines n rs)
groups_told n [] h = refl
groups_told n (r ∷ rs) h =
    let head = group_lines_told n r h.0 in let tail = groups_told (n + 1) rs h.1 in λ i. head i ∷ tail i

all_told : (rs : List Receipt) (w : World) → AllByRecursion IsReceipt rs → IsBehind rs w → map line_of (nodes_of rs w) ≡ map (λ l. Some l) (told_lines rs w)
all_told rs w h b =
    map-append line_of (group_nodes 1 rs) (state_nodes w)
    ∙ ap (λ xs. xs ++ map line_of (state_nodes w)) (groups_told 1 rs h)
    ∙ ap (λ ys. map (λ l. Some l) (group_lines 1 rs) ++ ys) (state_told w (worlds_told rs w b))
    ∙ sym (map-append (λ l. Some l) (group_lines 1 rs) (state_lines w))

pub good_runs_agree : GoodRunsAgree
good_runs_agree file done w r e good plain receipts written short =
    let b : IsBehind done.receipts w = record { good = good; plain = plain; log = files_tell file done w r e; burns = files_burn file done w r e } in
    let lines = all_printed done w e in
    let follow = lines_follow done.receipts w (tickets_apart w good.sound.form plain) in
    let verdict = judged (nodes_of done.receipts w) (told_lines done.receipts w) written (subst (λ ls. length (text_of ls) ≤ audit_limit) lines short)
    (all_told done.receipts w receipts b) follow.0 follow.1 in
    subst (λ ls. IsVerdict (text_of ls) agrees) (sym lines) (subst (IsVerdict (text_of (map line (nodes_of done.receipts w)))) (told_agree done.receipts w b) verdict)
