use Rattle.mich_replay.proofs.Promise.{meets_in, hands_in}
use Rattle.mich_replay.proofs.top.mich.Goals as goal

pub returns-clause-meets : goal.returns-clause-meets
returns-clause-meets g c =
    let a = c.answer_words.ensures in
    rw c.status_of.ensures (meets_in _ _ _ _ _ _ _ _ _ c.answer_words.result a.comes a.end a.file a.reads a.writes)

pub returns-clause-lines : goal.returns-clause-lines
returns-clause-lines g c = rw c.status_of.ensures (hands_in _ _ _ _ c.answer_words.result c.answer_words.ensures.comes)

pub returns-clause-pace : goal.returns-clause-pace
returns-clause-pace g c = rw c.status_of.ensures c.answer_words.ensures.pace

pub returns-clause-taken : goal.returns-clause-taken
returns-clause-taken g c = rw c.status_of.ensures c.answer_words.ensures.taken

pub returns-clause-resumed : goal.returns-clause-resumed
returns-clause-resumed g c = rw c.status_of.ensures c.answer_words.ensures.resumed

pub returns-clause-both : goal.returns-clause-both
returns-clause-both g c = rw c.status_of.ensures c.answer_words.ensures.both
