use Rattle.std.proofs.Common.{◌≡◌, true, sym, ap, ◌∙◌, subst}
use Rattle.std.specs.Prelude.{is_some}
use Rattle.std.specs.List.{AllByRecursion}
use Rattle.std.specs.Map.{keys_of}
use Rattle.rules_data.specs.big_maps.Changes.{changed}
use Rattle.mich_term.specs.Keyed.{IsIncreasing}
use Rattle.mich_term.specs.ValueView.{pairs}
use Rattle.mich_term.specs.declared.value.BigMap.{out-BigMap}
use Rattle.mich_bigmap.specs.Bases.{Bases, Changes, entries_in, seen}
use Rattle.mich_bigmap.proofs.Meaning.{none_in}
use Rattle.mich_bigmap.proofs.Putting.{put_keys, puts_make, puts_put}
use Rattle.mich_bigmap.proofs.unsharing.unshared.Goals as goal

pub returns-clause-same : goal.returns-clause-same
returns-clause-same c =
    let made = c.in_ok-overlay.ensures in
    let m = out-BigMap c.args.m.now in
    (λ i. changed (seen (made.changes i)) (none_in c.args.store.now.bases.present i)) ∙ puts_make c.apply.new.entries made.increasing
    ∙ c.in_ok-apply.ensures ∙ ap (λ (cs : Changes). changed (seen cs) (pairs c.in_ok-entries.entries)) c.in_ok-changes.ensures
    ∙ ap (changed (seen m.overlay)) (c.in_ok-entries.ensures ∙ ap (λ (bs : Bases). entries_in bs m.base) c.layers.ensures.bases)

pub returns-clause-formed : goal.returns-clause-formed
returns-clause-formed c =
    let made = c.in_ok-overlay.ensures in
    let entries = c.apply.new.entries in
    record {
      keys = subst (λ (cs : Changes). IsIncreasing (keys_of cs)) (sym made.changes) (subst IsIncreasing (sym (put_keys entries)) made.increasing);
      puts = λ s. subst (λ (cs : Changes). AllByRecursion (λ e. is_some e.1 ≡ true) cs) (sym made.changes) (puts_put entries);
    }
