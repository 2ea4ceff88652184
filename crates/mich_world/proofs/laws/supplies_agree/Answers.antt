use Rattle.mich_world.proofs.Agreeing.{total_is}
use Rattle.mich_world.proofs.laws.supplies_agree.Goals as goal

pub returns : goal.returns
returns c = λ v w s. total_is v.funds.present v.store.bases.present v.ledger.books.present w s.those
