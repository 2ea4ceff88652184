use Rattle.std.proofs.Common.{◌||◌, map, is_some, sym, ap, ◌∙◌}
use Rattle.std.specs.Str.{bytes_eq}
use Rattle.rules_code.specs.typing.Sections.{view_named}
use Rattle.mich_outline.specs.Named.{has}
use Rattle.mich_outline.specs.View.{written_of}
use Rattle.mich_outline.proofs.Names.{views_more}
use Rattle.mich_outline.proofs.gathering.add_view.Goals as goal

pub returns-clause-naming : goal.returns-clause-naming
returns-clause-naming c = λ q.
    c.in_ok-add_name.ensures.added q
    ∙ ap (λ n. bytes_eq n q || has q c.args.contents.now.names) c.as_slice.ensures
    ∙ ap (λ b. bytes_eq c.args.view.name.now q || b) (c.requires.naming q)
    ∙ sym (views_more c.args.contents.now.views c.args.view q)
    ∙ sym (ap (λ vs. is_some (view_named q (map written_of vs))) c.in_ok-push.ensures.pushed)
