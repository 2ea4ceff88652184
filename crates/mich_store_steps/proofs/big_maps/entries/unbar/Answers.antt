use Rattle.std.proofs.Common.{◌≡◌, Bool, false, true, sym, ap, ◌∙◌}
use Rattle.std.specs.Prelude.{◌&&◌, is_some}
use Rattle.mich_term.specs.Holding.{carries}
use Rattle.mich_term.specs.ValueView.{val}
use Rattle.mich_term.specs.declared.value.BigMap.{out-BigMap}
use Rattle.mich_store_steps.proofs.big_maps_lemmas.Sighted.{alone_seen}
use Rattle.mich_store_steps.proofs.big_maps.entries.unbar.Goals as goal

no_ticket : {A : Type 0} (b c r : Bool) → r ≡ (b && c) → r ≡ true → c ≡ false → A
no_ticket b true r e t n = absurd cc
no_ticket true false r e t n = let no : false ≡ true = sym e ∙ t in absurd cc
no_ticket false false r e t n = let no : false ≡ true = sym e ∙ t in absurd cc

pub returns-in_ok-big : goal.returns-in_ok-big
returns-in_ok-big c =
    let bs = c.args.store.now.bases.present in
    let made = c.in_ok-big.ensures in
    record {
      entries = alone_seen bs c.args.big.now _ c.requires made.formed made.base made.same;
      permitted = λ s. let no : false ≡ true = sym (ap is_some made.base) ∙ s in absurd cc;
      stays = λ none. no_ticket (is_some (out-BigMap c.args.big.now).base) (carries (val c.args.value.now)) c.is_barred.result c.is_barred.ensures.exact c.if-is_barred.true none;
    }
