-- Values that name no base: they stand in every store for what they are.
use Rattle.std.proofs.Common.{◌≡◌, ℕ, true, [], None, Some, refl, sym, ap, ◌∙◌}
use Rattle.std.specs.declared.option.Option.{Option}
use Rattle.rules_data.specs.big_maps.Changes.{changed}
use Rattle.mich_bigmap.specs.Bases.{Bases, entries_in, seen}
use Rattle.mich_bigmap.specs.Extended.{Extends}
use Rattle.mich_bigmap.specs.Formed.{is_there}
use Rattle.mich_bigmap.specs.Layers.{BasedLayer, HasBases}
use Rattle.mich_bigmap.specs.Standing.{val_in, big_val_in, big_step_in}
use Rattle.mich_bigmap.proofs.ForCallers.{none_in, big_val_is, alone_is, each_both, agree, equals, based_later}
use Rattle.mich_term.specs.Layers.{FormedLayer, AreFormed}
use Rattle.mich_term.specs.ValueView.{val, big_pairs, big_step}
use Rattle.mich_term.specs.declared.value.Value.{Value}
use Rattle.mich_term.specs.declared.value.Value.TheOpen.{BigMap-F}
use Rattle.mich_term.specs.declared.value.BigMap.{BigMap, out-BigMap}
use Rattle.mich_term.proofs.ForCallers.Each as e
use Rattle.mich_term.proofs.ForCallers.{big_is}

-- a store without bases has none of a number
named_none : (o : Option ℕ) → is_there [] o ≡ true → o ≡ None
named_none None h = refl
named_none (Some k) h = absurd cc

pub nothing_extends : (bs : Bases) → Extends [] bs
nothing_extends bs = record {
  there = λ o h. ap (is_there bs) (named_none o h);
  same = λ o h. ap (entries_in bs) (named_none o h) ∙ none_in bs ∙ sym (ap (entries_in []) (named_none o h));
}

pub alone_based : (bs : Bases) (x : Value) → HasBases [] x → HasBases bs x
alone_based bs x h = based_later [] bs x (nothing_extends bs) h

record AloneLayer (b : BigMap-F Value BigMap) : Type 0 where
  formed : FormedLayer b
  alone : b.base ≡ None

big_alone : (bs : Bases) (b : BigMap) → AloneLayer (out-BigMap b) → big_val_in bs b ≡ big_pairs b
big_alone bs b a =
    big_val_is bs b a.formed
    ∙ ap (λ ps. changed (seen (out-BigMap b).overlay) ps) (ap (entries_in bs) a.alone ∙ none_in bs)
    ∙ alone_is (out-BigMap b).overlay (a.formed.puts a.alone) a.formed.keys
    ∙ sym (big_is b)

pub alone_stands : (bs : Bases) (x : Value) → HasBases [] x → AreFormed x → val_in bs x ≡ val x
alone_stands bs x h f =
    agree equals (big_step_in bs) big_step AloneLayer (λ z q. big_alone bs _ (e.here AloneLayer _ q)) x
    (each_both FormedLayer (BasedLayer []) AloneLayer (λ b p q. record { formed = p; alone = named_none b.base q }) x f h)
