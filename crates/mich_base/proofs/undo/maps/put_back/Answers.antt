use Rattle.std.proofs.Common.{ap, sym, ◌∙◌}
use Rattle.std.specs.BTreeMap.{is_at}
use Rattle.std.specs.Option.{option_copied_mut}
use Rattle.mich_base.proofs.undo_lemmas.Backs.{set_value_none}
use Rattle.mich_base.proofs.undo.maps.put_back.Goals as goal

-- no such key: nothing is written, and that is what the definition says
pub returns-in-Some : goal.returns-in-Some
returns-in-Some g c =
    let none = sym c.get_mut.ensures.value ∙ ap option_copied_mut c.in_default.is in
    rw (c.get_mut.follows.holds-at-none, c.in-Some.is) (sym (set_value_none (is_at (g.K.Ord.cmp c.args.key)) c.args.map.now.entries c.in-Some.value none))
