use Rattle.mich_bigmap.specs.Merged.{all_with}
use Rattle.mich_bigmap.proofs.Overwriting.{made_merged, made_increasing, made_bare}
use Rattle.mich_bigmap.proofs.Weaving.{woven_merged, woven_increasing, woven_bare}
use Rattle.mich_bigmap.proofs.merging.overwritten.Goals as goal

pub returns : goal.returns
returns c =
    let lower = c.args.lower.now in
    let upper = c.args.changes in
    let answer = c.woven.result in
    let all = all_with upper lower in
    record {
      merged = made_merged answer lower upper all c.woven.ensures (woven_merged lower upper);
      increasing = made_increasing answer all c.woven.ensures (woven_increasing lower upper c.requires.lower);
      ticketless = made_bare answer lower upper all c.woven.ensures (woven_bare lower upper);
    }
