use Rattle.mich_world.proofs.Agreeing.{balance_is}
use Rattle.mich_world.proofs.laws.balances_agree.Goals as goal

pub returns : goal.returns
returns c = λ v w p s h. balance_is v.funds.present v.store.bases.present v.ledger.books.present w p s.those h
