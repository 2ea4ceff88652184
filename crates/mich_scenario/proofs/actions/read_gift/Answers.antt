use Rattle.mich_scenario.proofs.Gifts.{gift_read}
use Rattle.mich_scenario.proofs.actions.read_gift.Goals as goal

pub returns-in-Some : goal.returns-in-Some
returns-in-Some c = gift_read c.args.fields.now _ _ _ _ _ _ _ _ c.gift_of.result c.in-Some.ensures c.gift_of.ensures
