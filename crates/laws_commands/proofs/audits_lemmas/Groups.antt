-- The lines of groups tell the changes of their receipts.
use Rattle.std.proofs.Common.{◌≡◌, ℕ, ◌≤◌, true, ◌&&◌, Option, Some, List, [], ◌∷◌, ◌++◌, map, refl, sym, ap, ◌∙◌, arith}
use Rattle.std.specs.Prelude.{ℤ, pos, negsuc, nat_le, ◌^◌, ◌-◌}
use Rattle.std.specs.List.{AllByRecursion}
use Rattle.std.proofs.lemmas.Bool.Decides.{nat_tests}
use Rattle.std.proofs.lemmas.List.{map-append}
use Rattle.rules_text.specs.nodes.Tree.{int, bytes, seq, Trees, none, more, trees_of}
use Rattle.rules_data.specs.types.Printing.{node_of}
use Rattle.rules_data.specs.values.Canonical.{canonical}
use Rattle.rules_data.specs.values.Forms.{is_ticket_amount}
use Rattle.rules_data.specs.values.Tickets.{Held}
use Rattle.rules_code.specs.steps.Changes.{Change}
use Rattle.rules_code.specs.steps.Changes as changes
use Rattle.rules_world.specs.world.Forms.{IsChange, IsTicket}
use Rattle.rules_world.specs.world.Receipts.{Effect, Transfer, Give, Origination, Event, Storage, Status, Applied, Backtracked, Failed, Skipped, Receipt, Refused, Done}
use Rattle.rules_world.specs.lines.Nodes.{change_node, effect_node, status_node, receipt_node}
use Rattle.rules_audit.specs.Fields.{◌>>=◌, only_if, named, Sort, minted, burnt, Part, part, identity, part_of, amount_from, each, change_by, changes_of}
use Rattle.rules_audit.specs.Lines.{group, with_amount, effect_by, status_by, receipt_of}
use Rattle.laws_commands.specs.audits.Changes.{effect_changes, effects_changes, status_changes, statuses_changes, receipt_changes}
use Rattle.laws_commands.specs.audits.ToldLines.{change_part}
use Rattle.laws_commands.specs.audits.ToldLines as told
use Rattle.laws_commands.specs.audits.Receipts.{IsAmount, IsEffect, IsStatus, IsReceipt, GroupLinesAreTold}
use Rattle.laws_commands.proofs.audits_lemmas.Tickets.{amount_read, issuer_read}

-- ---- parts

abbrev fields_of : Held → Trees
fields_of t = more (bytes t.issuer) (more (node_of t.kind) (more (canonical t.content) (more (int t.amount) none)))

part_read : (sort : Sort) (t : Held) → IsTicket t → part_of sort (fields_of t) ≡ Some (told.part_of sort t ∷ [])
part_read sort t h =
    ap (λ b. only_if b (int t.amount) >>= λ n. amount_from 1 n >>= λ n. Some (part sort (identity t.issuer (node_of t.kind) (canonical t.content)) n ∷ [])) (issuer_read t.issuer h.0)
    ∙ ap (λ o. o >>= λ n. Some (part sort (identity t.issuer (node_of t.kind) (canonical t.content)) n ∷ [])) (amount_read t.amount h.1)

change_read : (c : Change) → IsChange c → named change_by (change_node c) ≡ Some (change_part c ∷ [])
change_read (changes.minted t) h = part_read minted t (h.0, h.1)
change_read (changes.burnt t) h = part_read burnt t h

-- ---- one after another

abbrev parts : List Change → List Part
parts cs = map change_part cs

then_each : (xs ys : List Change) (o p : Option (List Part)) → o ≡ Some (parts xs) → p ≡ Some (parts ys) →
    (o >>= λ ps. p >>= λ qs. Some (ps ++ qs)) ≡ Some (parts (xs ++ ys))
then_each xs ys o p e g =
    ap (λ o. o >>= λ ps. p >>= λ qs. Some (ps ++ qs)) e ∙ ap (λ p. p >>= λ qs. Some (parts xs ++ qs)) g ∙ ap Some (sym (map-append change_part xs ys))

changes_read : (cs : List Change) → AllByRecursion IsChange cs → each (named change_by) (trees_of (map change_node cs)) ≡ Some (parts cs)
changes_read [] h = refl
changes_read (c ∷ cs) h = then_each (c ∷ []) cs (named change_by (change_node c)) (each (named change_by) (trees_of (map change_node cs))) (change_read c h.0) (changes_read cs h.1)

-- ---- effects

amount_is : (n : ℕ) → IsAmount n → with_amount (int (pos n)) ≡ Some []
amount_is n h = ap (λ b. only_if b n >>= λ n. Some []) (both n h)
  where
    both : (n : ℕ) → n ≤ 2 ^ 127 - 1 → nat_le 0 n && nat_le n (2 ^ 127 - 1) ≡ true
    both n h = grind (arith, nat_tests)

given_is : (n : ℤ) → is_ticket_amount n ≡ true → with_amount (int n) ≡ Some []
given_is (pos m) h = amount_is m (below m h)
  where
    below : (m : ℕ) → nat_le 1 m && nat_le m (2 ^ 127 - 1) ≡ true → m ≤ 2 ^ 127 - 1
    below m h = grind (arith, nat_tests)
given_is (negsuc m) h = absurd cc

effect_read : (e : Effect) → IsEffect e → named effect_by (effect_node e) ≡ Some (parts (effect_changes e))
effect_read (Transfer sender destination amount argument cs) h =
    ap (λ o. o >>= λ n. changes_of (seq (trees_of (map change_node cs)))) (amount_is amount h.0) ∙ changes_read cs h.1
effect_read (Give sender destination issuer kind content amount cs) h =
    ap (λ b. only_if b (int amount) >>= λ n. with_amount n >>= λ n. changes_of (seq (trees_of (map change_node cs)))) (issuer_read issuer h.0)
    ∙ ap (λ o. o >>= λ n. changes_of (seq (trees_of (map change_node cs)))) (given_is amount h.1) ∙ changes_read cs h.2
effect_read (Origination sender address amount) h = amount_is amount h
effect_read (Event sender tag kind value) h = refl
effect_read (Storage address count burn) h = amount_is burn h

effects_read : (es : List Effect) → AllByRecursion IsEffect es → each (named effect_by) (trees_of (map effect_node es)) ≡ Some (parts (effects_changes es))
effects_read [] h = refl
effects_read (e ∷ es) h =
    then_each (effect_changes e) (effects_changes es) (named effect_by (effect_node e)) (each (named effect_by) (trees_of (map effect_node es))) (effect_read e h.0) (effects_read es h.1)

-- ---- receipts

status_read : (s : Status) → IsStatus s → named status_by (status_node s) ≡ Some (parts (status_changes s))
status_read (Applied gas es) h = effects_read es h
status_read Backtracked h = refl
status_read (Failed count failure) h = refl
status_read Skipped h = refl

statuses_read : (ss : List Status) → AllByRecursion IsStatus ss → each (named status_by) (trees_of (map status_node ss)) ≡ Some (parts (statuses_changes ss))
statuses_read [] h = refl
statuses_read (s ∷ ss) h =
    then_each (status_changes s) (statuses_changes ss) (named status_by (status_node s)) (each (named status_by) (trees_of (map status_node ss))) (status_read s h.0) (statuses_read ss h.1)

receipt_read : (r : Receipt) → IsReceipt r → receipt_of (receipt_node r) ≡ Some (parts (receipt_changes r))
receipt_read (Refused why) h = refl
receipt_read (Done ss) h = statuses_read ss h

pub group_lines_told : GroupLinesAreTold
group_lines_told n r h = ap (λ o. o >>= λ ps. Some (group (pos n) ps)) (receipt_read r h)
