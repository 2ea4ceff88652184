use Rattle.std.proofs.Common.{sym, ap, ◌∙◌}
use Rattle.rules_code.specs.certificates.Certificates.{entry_nodes}
use Rattle.mich_base.specs.View.{tree, trees}
use Rattle.mich_cert.specs.Entries.{all_entries}
use Rattle.mich_cert.proofs.Verified.{answered, not_certified, not_listed, not_true, parts_within}
use Rattle.mich_cert.proofs.verifying.verify.Goals as goal

pub returns-in_default : goal.returns-in_default
returns-in_default c = not_true _ (not_certified (tree c.args.node.now) c.in_default.ensures)

pub read_entries-requires : goal.read_entries-requires
read_entries-requires c = (parts_within (tree c.args.node.now) _ _ c.in-Some.ensures c.requires).1

pub returns-in_default-2 : goal.returns-in_default-2
returns-in_default-2 c =
    not_true _ (not_listed (tree c.args.node.now) _ _ c.in-Some.ensures c.requires (rw c.in_default-2.is at c.in_ok-entries.ensures))

pub confirms-requires : goal.confirms-requires
confirms-requires c = (parts_within (tree c.args.node.now) _ _ c.in-Some.ensures c.requires).0

pub returns : goal.returns
returns c =
    let f = rw c.in-Some-2.is at c.in_ok-entries.ensures in
    answered _ (tree c.args.node.now) (tree c.in-Some.written.now) (trees c.in-Some.listed.now) (all_entries c.as_slice.result.now)
    c.in-Some.ensures (f ∙ ap (λ es. entry_nodes (all_entries es)) (sym c.as_slice.ensures)) c.confirms.ensures
