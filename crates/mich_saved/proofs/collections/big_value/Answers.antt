use Rattle.std.proofs.Common.{◌≡◌, ap, ◌∙◌, rules}
use Rattle.rules_data.specs.values.Val.{big_table}
use Rattle.mich_term.specs.ValueView.{val, big_pairs}
use Rattle.mich_term.specs.declared.value.Value.{Value, the_lemmas}
use Rattle.mich_term.specs.declared.value.Value.TheVariants as value
use Rattle.mich_term.specs.declared.value.Value.TheOpen.{BigMap-F}
use Rattle.mich_term.specs.declared.value.BigMap.{BigMap}
use Rattle.mich_saved.proofs.Gathered.{big_opened, big_pairs_put, sorted_keys}
use Rattle.mich_saved.proofs.Wholes.{big_whole}
use Rattle.mich_saved.proofs.collections.big_value.Goals as goal

val_big_map : (b : BigMap) → val (value.BigMap b) ≡ big_table (big_pairs b)
val_big_map b = search (rules, the_lemmas)

pub returns-clause-value : goal.returns-clause-value
returns-clause-value c =
    let opened = big_opened c.in_ok-big.big _ c.in_ok-big.ensures in
    val_big_map c.in_ok-big.big ∙ ap big_table (big_pairs_put c.in_ok-big.big c.args.entries (ap (λ (l : BigMap-F Value BigMap). l.overlay) opened ∙ c.in_ok-overlay.ensures))

pub returns-clause-whole : goal.returns-clause-whole
returns-clause-whole c = λ a b big h.
    let opened = big_opened c.in_ok-big.big _ c.in_ok-big.ensures in
    big_whole a b c.in_ok-big.big c.args.entries big h (sorted_keys c.args.entries c.requires)
    (ap (λ (l : BigMap-F Value BigMap). l.base) opened) (ap (λ (l : BigMap-F Value BigMap). l.overlay) opened ∙ c.in_ok-overlay.ensures)
