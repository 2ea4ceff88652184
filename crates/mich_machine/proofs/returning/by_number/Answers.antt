use Rattle.std.proofs.Common.{rules, ◌≡◌, List, [], ◌∷◌, ◌++◌, append_assoc, sym, ap, ◌∙◌}
use Rattle.std.specs.Vec.Iter.{into_iter_items}
use Rattle.mich_ops.specs.declared.issued.Issued.{Issued}
use Rattle.mich_machine.proofs.Picking.{put_next}
use Rattle.mich_machine.proofs.returning.by_number.Goals as goal

pub loop-operation-preserved : goal.loop-operation-preserved
loop-operation-preserved c =
    let rest = into_iter_items c.next.new.self in
    let x = c.in-Some.operation in
    let first : into_iter_items c.loop-operation.operation-iterator ≡ x ∷ rest = search rules in
    let place : c.loop-operation.yielded ++ x ∷ rest ≡ c.args.issued =
    ap (λ (l : List Issued). c.loop-operation.yielded ++ l) (sym first) ∙ c.loop-operation.invariant.place in
    record {
      so_far = put_next x c.number.result c.loop-operation.yielded rest c.args.issued c.loop-operation.all.entries c.insert.new.self.entries place c.requires
          c.loop-operation.invariant.so_far c.number.ensures c.in_ok-old.ensures.entries;
      place = append_assoc c.loop-operation.yielded (x ∷ []) rest ∙ place;
    }
