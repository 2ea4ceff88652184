use Rattle.std.proofs.Common.{List, refl, sym, ap, ◌∙◌}
use Rattle.rules_data.specs.big_maps.Changes.{changed}
use Rattle.mich_term.specs.ValueView.{pairs}
use Rattle.mich_term.specs.declared.datum.Datum.{Datum}
use Rattle.mich_term.specs.declared.value.Value.{Value}
use Rattle.mich_bigmap.specs.Bases.{seen}
use Rattle.mich_bigmap.proofs.Overwriting.{put_entries, put_increasing, put_puts}
use Rattle.mich_bigmap.proofs.Plain.{alone_is}
use Rattle.mich_bigmap.proofs.Putting.{all_put}
use Rattle.mich_bigmap.proofs.merging.alone.Goals as goal

-- they are left as they are
pub returns-then-only_put : goal.returns-then-only_put
returns-then-only_put c =
    let all = all_put c.args.changes (sym c.only_put.ensures.only ∙ c.if-only_put.true) in
    record {
      entries = refl;
      increasing = c.only_put.ensures.increasing;
      puts = sym (alone_is c.args.changes all c.only_put.ensures.increasing);
    }

pub returns : goal.returns
returns c =
    let made = c.puts_of.ensures in
    let all = c.in_ok-apply.ensures ∙ ap (λ (es : List (Datum × Value)). changed (seen c.args.changes) (pairs es)) c.new-entries.ensures in
    record {
      entries = put_entries c.puts_of.result c.apply.new.entries _ made.changes made.increasing all;
      increasing = put_increasing c.puts_of.result c.apply.new.entries made.changes made.increasing;
      puts = put_puts c.puts_of.result c.apply.new.entries _ made.changes all;
    }
