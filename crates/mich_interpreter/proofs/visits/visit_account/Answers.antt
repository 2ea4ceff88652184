use Rattle.std.proofs.Common.{rules, ◌≡◌, true}
use Rattle.rules_data.specs.forms.Spelling.{is_key_hash}
use Rattle.mich_base.specs.TypeView.{kind}
use Rattle.mich_interpreter.proofs.Visited.{account_views}
use Rattle.mich_interpreter.proofs.visits.visit_account.Goals as goal

pub returns : goal.returns
returns c = λ x.
    let who : is_key_hash c.args.who ≡ true = search (rules, c.well_formed) in
    account_views x c.args.who c.args.entrypoint c.args.name.now (kind c.args.input.now) (kind c.args.output.now) who
