use Rattle.mich_binary.proofs.PieceLaws.{cut_end, cut_more}
use Rattle.mich_binary.proofs.fields.cut.Goals as goal

pub returns-in-None-clause-pieces : goal.returns-in-None-clause-pieces
returns-in-None-clause-pieces c =
    cut_end c.args.bytes.now c.split_at.result.0.now c.split_at.result.1.now _ c.piece_len-end.ensures.is c.split_at.ensures.front c.split_at.ensures.back c.in-None.ensures.cases

pub returns-in-Some-clause-pieces : goal.returns-in-Some-clause-pieces
returns-in-Some-clause-pieces c =
    cut_more c.args.bytes.now c.split_at.result.0.now c.split_at.result.1.now c.in-Some.rest.now _ _ c.piece_len-end.ensures.is c.split_at.ensures.front c.split_at.ensures.back c.in-Some.ensures.cases.0
