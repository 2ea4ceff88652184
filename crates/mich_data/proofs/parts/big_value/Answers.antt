use Rattle.std.proofs.Common.{ap, ◌∙◌}
use Rattle.rules_data.specs.values.Val.{big_table}
use Rattle.mich_term.specs.declared.value.Value.{Value}
use Rattle.mich_term.specs.declared.value.Value.TheOpen.{BigMap-F}
use Rattle.mich_term.specs.declared.value.BigMap.{BigMap}
use Rattle.mich_data.proofs.Tables.{big_opened, big_pairs_put, big_lies_whole}
use Rattle.mich_data.proofs.Typed.{val_big_map}
use Rattle.mich_data.proofs.Whole.{big_map_whole}
use Rattle.mich_data.proofs.parts.big_value.Goals as goal

pub returns-clause-value : goal.returns-clause-value
returns-clause-value c =
    let opened = big_opened c.in_ok-big.big _ c.in_ok-big.ensures in
    val_big_map c.in_ok-big.big
    ∙ ap big_table (big_pairs_put c.in_ok-big.big c.args.table (ap (λ (l : BigMap-F Value BigMap). l.overlay) opened ∙ c.in_ok-overlay.ensures.puts))

pub returns-clause-whole : goal.returns-clause-whole
returns-clause-whole c = λ a b h.
    let opened = big_opened c.in_ok-big.big _ c.in_ok-big.ensures in
    big_map_whole a b c.in_ok-big.big
    (big_lies_whole b c.in_ok-big.big c.args.table (ap (λ (l : BigMap-F Value BigMap). l.base) opened)
    (ap (λ (l : BigMap-F Value BigMap). l.overlay) opened ∙ c.in_ok-overlay.ensures.puts) c.overlay_of.ensures.increasing h)
