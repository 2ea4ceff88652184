use Rattle.std.proofs.Common.{ℕ, List, ◌++◌, map, sym, ap, ◌∙◌}
use Rattle.std.specs.Prelude.{codes}
use Rattle.rules_text.specs.nodes.Tree.{bytes, int}
use Rattle.rules_text.specs.text.Printed.{printed}
use Rattle.rules_world.specs.lines.Nodes.{changes_node, effect_node}
use Rattle.mich_base.specs.View.{tree}
use Rattle.mich_forms.specs.Spelled.{address_bytes, place_bytes}
use Rattle.mich_ops.specs.View.{change, effect}
use Rattle.mich_ops.specs.declared.receipt.Effect.{Effect}
use Rattle.mich_report.specs.Pieces.{field}
use Rattle.mich_report.proofs.Pieces.{on, last, on_ok, give_pieces}
use Rattle.mich_report.proofs.effects.put_effect.Goals as goal

pub returns-in_ok-put_argument-in-Transfer : goal.returns-in_ok-put_argument-in-Transfer
returns-in_ok-put_argument-in-Transfer c =
    on_ok c.put_changes.result
    (λ end. on c.args.line.now.items _ _ _ _ c.in_ok-put-in-Transfer.ensures
    (on c.put.new.line.items _ _ _ _ c.in_ok-put_place-in-Transfer.ensures
    (on c.put_place.new.line.items _ _ _ _ c.in_ok-put_address-in-Transfer.ensures
    (on c.put_address.new.line.items _ _ _ _ c.in_ok-put_number-in-Transfer.ensures
    (on c.put_number.new.line.items _ _ _ _ c.in_ok-put_argument-in-Transfer.ensures
    (last c.put_argument.new.line.items _ _ end)))))
    ∙ ap (λ (d : Effect). c.args.line.now.items ++ printed (effect_node (effect d))) (sym c.in-Transfer.is))
    c.put_changes.ensures

pub returns-in_ok-put_int-in-Give : goal.returns-in_ok-put_int-in-Give
returns-in_ok-put_int-in-Give c =
    on_ok c.put_changes-in-Give.result
    (λ end.
    let seventh = last c.put_int.new.line.items c.put_changes-in-Give.new.line.items (field (changes_node (map change c.in-Give.changes))) end in
    let sixth = on c.put_argument-in-Give-2.new.line.items _ _ (field (int c.in-Give.amount)) _ c.in_ok-put_int-in-Give.ensures seventh in
    let fifth = on c.put_argument-in-Give.new.line.items _ _ (field (tree c.in-Give.content)) _ c.in_ok-put_argument-in-Give-2.ensures sixth in
    let fourth = on c.put_place-in-Give-2.new.line.items _ _ (field (tree c.in-Give.ty)) _ c.in_ok-put_argument-in-Give.ensures fifth in
    let third = on c.put_address-in-Give.new.line.items _ _ (field (bytes (place_bytes c.in-Give.issuer))) _ c.in_ok-put_place-in-Give-2.ensures fourth in
    let second = on c.put_place-in-Give.new.line.items _ _ (field (bytes (address_bytes c.in-Give.to))) _ c.in_ok-put_address-in-Give.ensures third in
    let first = on c.put-in-Give.new.line.items _ _ (field (bytes (place_bytes c.in-Give.sender))) _ c.in_ok-put_place-in-Give.ensures second in
    let whole = on c.args.line.now.items _ _ (codes "Give") _ c.in_ok-put-in-Give.ensures first in
    let is = give_pieces (place_bytes c.in-Give.sender) (address_bytes c.in-Give.to) (place_bytes c.in-Give.issuer) (tree c.in-Give.ty) (tree c.in-Give.content) c.in-Give.amount (map change c.in-Give.changes) in
    whole ∙ ap (λ (t : List ℕ). c.args.line.now.items ++ t) is ∙ ap (λ (d : Effect). c.args.line.now.items ++ printed (effect_node (effect d))) (sym c.in-Give.is))
    c.put_changes-in-Give.ensures

pub returns-in_ok-put_place-in-Origination-2 : goal.returns-in_ok-put_place-in-Origination-2
returns-in_ok-put_place-in-Origination-2 c =
    on_ok c.put_number-in-Origination.result
    (λ end. on c.args.line.now.items _ _ _ _ c.in_ok-put-in-Origination.ensures
    (on c.put-in-Origination.new.line.items _ _ _ _ c.in_ok-put_place-in-Origination.ensures
    (on c.put_place-in-Origination.new.line.items _ _ _ _ c.in_ok-put_place-in-Origination-2.ensures
    (last c.put_place-in-Origination-2.new.line.items _ _ end)))
    ∙ ap (λ (d : Effect). c.args.line.now.items ++ printed (effect_node (effect d))) (sym c.in-Origination.is))
    c.put_number-in-Origination.ensures

pub returns-in_ok-put_argument-in-Event : goal.returns-in_ok-put_argument-in-Event
returns-in_ok-put_argument-in-Event c =
    on_ok c.put_argument-in-Event-2.result
    (λ end. on c.args.line.now.items _ _ _ _ c.in_ok-put-in-Event.ensures
    (on c.put-in-Event.new.line.items _ _ _ _ c.in_ok-put_place-in-Event.ensures
    (on c.put_place-in-Event.new.line.items _ _ _ _ c.in_ok-put_text-in-Event.ensures
    (on c.put_text.new.line.items _ _ _ _ c.in_ok-put_argument-in-Event.ensures
    (last c.put_argument-in-Event.new.line.items _ _ end))))
    ∙ ap (λ (d : Effect). c.args.line.now.items ++ printed (effect_node (effect d))) (sym c.in-Event.is))
    c.put_argument-in-Event-2.ensures
