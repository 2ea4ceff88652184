use Rattle.std.proofs.Common.{[], ◌∷◌, ◌++◌, take, refl, sym, ap, ◌∙◌, subst, arith}
use Rattle.std.proofs.lemmas.Result.{err_from_is_err_and}
use Rattle.std.proofs.KnownBytes.{Appends-nil, Appends-trans}
use Rattle.mich_io.specs.Handed.{Leaves}
use Rattle.mich_io.proofs.Fronts.{AppendsFront-more, split_more}
use Rattle.mich_io.proofs.Handed.{all_where_none_is_left, front_of_it, hands_nothing, hands_then, leaves_more, none_left}
use Rattle.mich_io.proofs.sink.write_all.Goals as goal

pub returns-in_err-count-clause-err : goal.returns-in_err-count-clause-err
returns-in_err-count-clause-err g c =
    let p = err_from_is_err_and c.from_residual.result c.from_residual.ensures.1 in
    rw p.1 (AppendsFront-more _ _ _ _ _ _ c.pieces.invariant.bytes.1 c.pieces.invariant.bytes.2 c.in_err-count.ensures.failed)

pub returns-in_err-count-clause-cut : goal.returns-in_err-count-clause-cut
returns-in_err-count-clause-cut g c =
    let p = err_from_is_err_and c.from_residual.result c.from_residual.ensures.1 in
    let h = c.pieces.invariant.handed in
    rw p.1 (front_of_it _ _ _ _ _ h.0 h.1 h.2 c.in_err-count.ensures.handed)

pub pieces-init : goal.pieces-init
pieces-init g c = record { later = omega arith; bytes = ([], refl, Appends-nil _); handed = ([], hands_nothing _, refl) }

pub pieces-preserved : goal.pieces-preserved
pieces-preserved g c =
    let written = c.pieces.invariant.bytes in
    let handed = c.pieces.invariant.handed in
    let n = c.in_ok-count.count in
    record {
      later = omega (arith, c.write.ensures.cause.later, c.pieces.invariant.later);
      bytes = (
        written.0 ++ take n c.pieces.rest.now,
        split_more written.0 _ _ n written.1 ∙ ap (λ l. (written.0 ++ take n c.pieces.rest.now) ++ l) (sym c.split_at.ensures.back),
        Appends-trans _ _ _ written.0 (take n c.pieces.rest.now) written.2 c.in_ok-count.ensures.ok,
      );
      handed = (
        handed.0 ++ c.pieces.rest.now ∷ [],
        hands_then _ _ _ handed.0 (c.pieces.rest.now ∷ []) handed.1 c.in_ok-count.ensures.handed,
        subst (Leaves c.args.bytes.now (handed.0 ++ c.pieces.rest.now ∷ [])) (sym c.split_at.ensures.back) (leaves_more c.args.bytes.now handed.0 c.pieces.rest.now n handed.2),
      );
    }

pub returns-clause-whole : goal.returns-clause-whole
returns-clause-whole g c =
    let h = c.pieces.invariant.handed in
    all_where_none_is_left _ _ _ _ h.0 (none_left c.pieces.rest.now c.pieces-test.ensures) h.1 h.2
