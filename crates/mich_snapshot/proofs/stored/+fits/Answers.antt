use Rattle.std.proofs.Common.{rules, ◌≡◌, Bool, false, List, [], reverse, sym, ap, ◌∙◌, subst, arith}
use Rattle.std.specs.Prelude.{IfOk}
use Rattle.std.specs.declared.option.Option.{Option}
use Rattle.std.proofs.lemmas.Grind.{common_steps}
use Rattle.std.proofs.lemmas.List.{reverse-reverse}
use Rattle.rules_data.specs.types.Kind.{Kind}
use Rattle.rules_data.specs.types.Kind as k
use Rattle.rules_data.specs.values.Forms.{AllEntriesHave}
use Rattle.rules_data.specs.values.Val.{Val, Pairs, table}
use Rattle.rules_files.specs.snapshots.Rules.{all_entries, is_stored}
use Rattle.rules_files.specs.snapshots.Spelt.{HasSpelling}
use Rattle.mich_base.specs.TypeView.{kind}
use Rattle.mich_term.proofs.ForCallers.{big_is, table_is}
use Rattle.mich_term.specs.ValueView.{pairs, put_pairs, val}
use Rattle.mich_term.specs.declared.datum.Datum.{Datum}
use Rattle.mich_term.specs.declared.value.BigMap.{out-BigMap}
use Rattle.mich_term.specs.declared.value.Value.{Value}
use Rattle.mich_snapshot.proofs.Fits.{big_holds, entries_hold, item_fails, item_has, kind_map}
use Rattle.mich_snapshot.proofs.stored.+fits.Goals as goal

pub list_fits-returns-then-not-branch : goal.list_fits-returns-then-not-branch
list_fits-returns-then-not-branch t c =
    let values = c.args.values.now in
    let items = c.as_reversed_slice-value-items.result.now in
    let x = c.value-item.result in
    let f : is_stored (kind c.args.part.now) (val x) ≡ false = search rules in
    sym (item_fails (is_stored (kind c.args.part.now)) values items c.loop-value.value-index x (ap reverse c.as_reversed_slice-value-items.ensures ∙ reverse-reverse values) (omega arith) c.value-item.is f)

pub list_fits-value_fits-requires : goal.list_fits-value_fits-requires
list_fits-value_fits-requires t c =
    let values = c.args.values.now in
    let items = c.as_reversed_slice-value-items.result.now in
    let x = c.value-item.result in
    let h : HasSpelling (kind c.args.part.now) (val x) =
    item_has (HasSpelling (kind c.args.part.now)) values items c.loop-value.value-index x (ap reverse c.as_reversed_slice-value-items.ensures ∙ reverse-reverse values) (omega arith) c.value-item.is c.requires.1 in
    search rules

pub table_fits-returns : goal.table_fits-returns
table_fits-returns t c =
    let none : c.loop-datum.datum-iterator ≡ [] = grind (arith, common_steps) in
    entries_hold (is_stored (kind c.args.key.now)) (is_stored (kind c.args.part.now)) c.loop-datum.datum-iterator c.args.entries.now none
    c.loop-datum.invariant.same c.iter-datum-items.ensures.increasing

pub big_fits-loop-datum-init : goal.big_fits-loop-datum-init
big_fits-loop-datum-init t c =
    let big = c.args.big.now in
    let rest : c.into_iter-datum-iterator.result ≡ (out-BigMap big).overlay = search rules in
    let test : Pairs → Bool = all_entries (is_stored (kind c.args.key.now)) (is_stored (kind c.args.part.now)) in
    record {
      same = ap (λ (es : List (Datum × Option Value)). test (put_pairs es)) rest ∙ sym (ap test (big_is big));
      spelt = subst (λ (es : List (Datum × Option Value)). AllEntriesHave (HasSpelling (kind c.args.key.now)) (HasSpelling (kind c.args.part.now)) (put_pairs es)) (sym rest)
          (subst (AllEntriesHave (HasSpelling (kind c.args.key.now)) (HasSpelling (kind c.args.part.now))) (big_is big) c.requires.1);
    }

pub big_fits-returns : goal.big_fits-returns
big_fits-returns t c =
    let none : c.loop-datum.datum-iterator ≡ [] = grind (arith, common_steps) in
    big_holds (is_stored (kind c.args.key.now)) (is_stored (kind c.args.part.now)) c.loop-datum.datum-iterator c.args.big.now none
    c.loop-datum.invariant.same c.iter-datum-items.ensures.increasing

pub value_fits-returns-in-Map-ty : goal.value_fits-returns-in-Map-ty
value_fits-returns-in-Map-ty t c =
    let entries = c.get-in-Map-ty-3.result.now in
    let map : Kind = k.map (kind c.get-in-Map-ty.result.now) (kind c.get-in-Map-ty-2.result.now) in
    let at : kind c.args.ty.now ≡ map =
    ap kind c.in-Map-ty.is ∙ kind_map c.in-Map-ty.key c.in-Map-ty.part ∙ sym (λ i. k.map (kind (c.get-in-Map-ty.ensures i)) (kind (c.get-in-Map-ty-2.ensures i))) in
    let same : val c.args.value.now ≡ table (pairs entries) =
    ap val c.in-Map.is ∙ table_is c.in-Map.entries ∙ ap (λ (es : List (Datum × Value)). table (pairs es)) (sym c.get-in-Map-ty-3.ensures) in
    subst (λ (a : Kind). IfOk c.table_fits.result (λ b. b ≡ is_stored a (val c.args.value.now))) (sym at)
    (subst (λ (x : Val). IfOk c.table_fits.result (λ b. b ≡ is_stored map x)) (sym same) c.table_fits.ensures)
