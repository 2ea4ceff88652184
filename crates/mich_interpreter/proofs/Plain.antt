-- What can be packed, and what big maps hold, holds no big map.
use Rattle.std.proofs.Common.{◌≡◌, true, refl}
use Rattle.std.proofs.lemmas.Bool.{and_parts, and_from}
use Rattle.rules_data.specs.types.Attributes.{packable, big_value}
use Rattle.rules_data.specs.types.Kind.{Kind}
use Rattle.rules_data.specs.types.Kind as k
use Rattle.rules_data.specs.values.Forms.{AllEntriesHave}
use Rattle.rules_data.specs.values.Val.{Val, Pairs}
use Rattle.rules_data.specs.values.Val as v
use Rattle.rules_code.specs.typing.Fits.{Known, Fits}
use Rattle.mich_store_steps.specs.seen.Sights.{is_plain, entries_plain}
use Rattle.mich_store_steps.proofs.seen.ForCallers.{each_entry_plain, each_plain, simple_plain}

module _ (w : Known) where
  pub packable_plain : (a : Kind) (x : Val) → packable a ≡ true → Fits w a x → is_plain x ≡ true
  packable_plain (k.simple u) x p h = simple_plain u x h
  packable_plain (k.option a) v.nothing p h = refl
  packable_plain (k.option a) (v.some x) p h = packable_plain a x p h
  packable_plain (k.or a b) (v.left x) p h = packable_plain a x (and_parts (packable a) (packable b) p).0 h
  packable_plain (k.or a b) (v.right x) p h = packable_plain b x (and_parts (packable a) (packable b) p).1 h
  packable_plain (k.pair a b) (v.both x y) p h =
      let q = and_parts (packable a) (packable b) p in and_from _ _ (packable_plain a x q.0 h.0) (packable_plain b y q.1 h.1)
  packable_plain (k.list a) (v.list xs) p h = each_plain (Fits w a) (λ x g. packable_plain a x p g) xs h
  packable_plain (k.set a) (v.set xs) p h = refl
  packable_plain (k.map a b) (v.table es) p h =
      let q = and_parts (packable a) (packable b) p in each_entry_plain (Fits w a) (Fits w b) (λ x g. packable_plain b x q.1 g) es h.0
  packable_plain (k.lambda a b) (v.lambda t recursive) p h = refl
  packable_plain (k.contract a) (v.bytes b) p h = refl
  packable_plain k.operation x p h = absurd cc
  packable_plain (k.big_map a b) x p h = absurd cc
  packable_plain (k.ticket a) x p h = absurd cc
  packable_plain _ _ p h = absurd h

  pub big_value_plain : (a : Kind) (x : Val) → big_value a ≡ true → Fits w a x → is_plain x ≡ true
  big_value_plain (k.simple u) x p h = simple_plain u x h
  big_value_plain (k.option a) v.nothing p h = refl
  big_value_plain (k.option a) (v.some x) p h = big_value_plain a x p h
  big_value_plain (k.or a b) (v.left x) p h = big_value_plain a x (and_parts (big_value a) (big_value b) p).0 h
  big_value_plain (k.or a b) (v.right x) p h = big_value_plain b x (and_parts (big_value a) (big_value b) p).1 h
  big_value_plain (k.pair a b) (v.both x y) p h =
      let q = and_parts (big_value a) (big_value b) p in and_from _ _ (big_value_plain a x q.0 h.0) (big_value_plain b y q.1 h.1)
  big_value_plain (k.list a) (v.list xs) p h = each_plain (Fits w a) (λ x g. big_value_plain a x p g) xs h
  big_value_plain (k.set a) (v.set xs) p h = refl
  big_value_plain (k.map a b) (v.table es) p h =
      let q = and_parts (big_value a) (big_value b) p in each_entry_plain (Fits w a) (Fits w b) (λ x g. big_value_plain b x q.1 g) es h.0
  big_value_plain (k.lambda a b) (v.lambda t recursive) p h = refl
  big_value_plain (k.ticket a) (v.ticket issuer kind content amount) p h = refl
  big_value_plain k.operation x p h = absurd cc
  big_value_plain (k.big_map a b) x p h = absurd cc
  big_value_plain (k.contract a) x p h = absurd cc
  big_value_plain _ _ p h = absurd h

  -- the values of a big map hold no big map
  pub entries_fit_plain : (a b : Kind) (es : Pairs) → big_value b ≡ true → AllEntriesHave (Fits w a) (Fits w b) es → entries_plain es ≡ true
  entries_fit_plain a b es p h = each_entry_plain (Fits w a) (Fits w b) (λ x g. big_value_plain b x p g) es h
