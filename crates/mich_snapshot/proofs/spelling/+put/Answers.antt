use Rattle.std.proofs.Common.{rules, ◌≡◌, ◌<◌, ◌≤◌, ◌-◌, List, ◌++◌, length, reverse, take, sym, ap, ◌∙◌, subst, arith}
use denote.Param.Weighed.{most}
use Rattle.std.proofs.lemmas.List.{take_all, reverse-reverse}
use Rattle.rules_data.specs.values.Val.{Val, Pairs, table}
use Rattle.rules_files.specs.snapshots.Loading.{all_bodies, bodies, entry_bodies}
use Rattle.rules_files.specs.snapshots.Spelling.{entry_spellings, value_spelling, value_spellings}
use Rattle.std.specs.declared.option.Option.{Option}
use Rattle.mich_term.specs.ValueView.{pairs, put_pairs, val, vals}
use Rattle.mich_term.specs.declared.datum.Datum.{Datum}
use Rattle.mich_term.specs.declared.value.BigMap.{out-BigMap}
use Rattle.mich_term.specs.declared.value.Value.{Value, size-Value}
use Rattle.mich_term.proofs.ForCallers.{big_is, table_is}
use Rattle.mich_snapshot.specs.Puts.{IsPut}
use Rattle.mich_snapshot.proofs.Putting.{any_long, counted_first, list_counted, table_counted, turned_most}
use Rattle.mich_snapshot.proofs.spelling.+put.Goals as goal

pub put_value-returns-in-Map : goal.put_value-returns-in-Map
put_value-returns-in-Map t c =
    let same : val c.args.value.now ≡ table (pairs c.get-in-Map.result.now) =
    ap val c.in-Map.is ∙ table_is c.in-Map.entries ∙ ap (λ (es : List (Datum × Value)). table (pairs es)) (sym c.get-in-Map.ensures) in
    subst (λ (x : Val). IsPut c.args.out.now.items c.put_table.new.out.items (value_spelling x) (any_long (bodies x)) c.put_table.result)
    (sym same) c.put_table.ensures

pub put_list-loop-left-init : goal.put_list-loop-left-init
put_list-loop-left-init t c =
    let items = c.as_reversed_slice-reversed.result.now in
    let values = c.args.values.now in
    let whole : reverse (take (length items) items) ≡ values =
    ap reverse (take_all _ items (omega arith) ∙ c.as_reversed_slice-reversed.ensures) ∙ reverse-reverse values in
    record {
      within = omega arith;
      text = ap (λ (vs : List Value). c.put_eight.new.out.items ++ value_spellings (vals vs)) whole
          ∙ counted_first _ _ (value_spellings (vals values)) _ _ c.in_ok-put_eight.ensures (c.len.ensures ∙ sym (list_counted values));
      long = ap (λ (vs : List Value). any_long (all_bodies (vals vs))) whole;
    }

pub put_table-loop-key-init : goal.put_table-loop-key-init
put_table-loop-key-init t c =
    let entries = c.args.entries.now in
    let rest : c.into_iter-key-iterator.result ≡ entries = search rules in
    record {
      text = ap (λ (es : List (Datum × Value)). c.put_eight.new.out.items ++ entry_spellings (pairs es)) rest
          ∙ counted_first _ _ (entry_spellings (pairs entries)) _ _ c.in_ok-put_eight.ensures (c.len.ensures.value ∙ sym (table_counted entries));
      long = ap (λ (es : List (Datum × Value)). any_long (entry_bodies (pairs es))) rest;
      place = rest;
    }

pub put_big-loop-key-init : goal.put_big-loop-key-init
put_big-loop-key-init t c =
    let big = c.args.big.now in
    let rest : c.into_iter-key-iterator.result ≡ (out-BigMap big).overlay = search rules in
    record {
      text = ap (λ (es : List (Datum × Option Value)). c.put_eight.new.out.items ++ entry_spellings (put_pairs es)) rest
          ∙ ap (λ (ps : Pairs). c.put_eight.new.out.items ++ entry_spellings ps) (sym (big_is big))
          ∙ counted_first _ _ _ _ _ c.in_ok-put_eight.ensures c.count_of.ensures;
      long = ap (λ (es : List (Datum × Option Value)). any_long (entry_bodies (put_pairs es))) rest
          ∙ ap (λ (ps : Pairs). any_long (entry_bodies ps)) (sym (big_is big));
      place = rest;
    }

pub put_list-put_value-requires : goal.put_list-put_value-requires
put_list-put_value-requires t c =
    let items = c.as_reversed_slice-reversed.result.now in
    let values = c.args.values.now in
    let x = c.index-reversed-left.result in
    let place : c.loop-left.left - 1 < length items = omega arith in
    let depth : size-Value x ≤ most size-Value values =
    turned_most size-Value values items (c.loop-left.left - 1) x c.as_reversed_slice-reversed.ensures place c.index-reversed-left.is in
    (omega (arith, depth, c.decreases), tt)
