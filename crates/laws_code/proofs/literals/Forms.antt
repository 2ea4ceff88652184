-- Values that fit have the form of their type, and those of pushable types hold no operation.
use Rattle.std.proofs.Common.{◌≡◌, true}
use Rattle.std.proofs.lemmas.Bool.{and_parts}
use Rattle.rules_data.specs.declared.types.Simple.{Simple}
use Rattle.rules_data.specs.declared.types.Simple.TheVariants as s
use Rattle.rules_data.specs.types.Kind.{Kind}
use Rattle.rules_data.specs.types.Kind as k
use Rattle.rules_data.specs.types.Attributes.{pushable}
use Rattle.rules_data.specs.values.Val.{Val, Vals, no_val, more_vals, Pairs, no_pair, more_pairs}
use Rattle.rules_data.specs.values.Val as v
use Rattle.rules_data.specs.values.Forms.{has_simple_form, AllHave, AllEntriesHave, HasForm}
use Rattle.rules_code.specs.typing.Fits.{Known, Fits}
use Rattle.laws_data.specs.values.Laws.{HoldsNoOperation, HoldNoOperation, EntriesHoldNoOperation}
use Rattle.laws_code.proofs.stacks.ForCallers.{all_have, entries_have}

pub fits_form : (w : Known) (a : Kind) (x : Val) → Fits w a x → HasForm a x
fits_form w (k.simple u) x h = h
fits_form w k.operation (v.operation n) h = tt
fits_form w (k.option a) v.nothing h = tt
fits_form w (k.option a) (v.some x) h = fits_form w a x h
fits_form w (k.or a b) (v.left x) h = fits_form w a x h
fits_form w (k.or a b) (v.right x) h = fits_form w b x h
fits_form w (k.pair a b) (v.both x y) h = (fits_form w a x h.0, fits_form w b y h.1)
fits_form w (k.list a) (v.list xs) h = all_have (Fits w a) (HasForm a) (fits_form w a) xs h
fits_form w (k.set a) (v.set xs) h = (all_have (Fits w a) (HasForm a) (fits_form w a) xs h.0, h.1)
fits_form w (k.map a b) (v.table es) h = (
  entries_have (Fits w a) (Fits w b) (HasForm a) (HasForm b) (fits_form w a)
      (fits_form w b) es h.0,
  h.1,
)
fits_form w (k.big_map a b) (v.big_table es) h = (
  entries_have (Fits w a) (Fits w b) (HasForm a) (HasForm b) (fits_form w a)
      (fits_form w b) es h.0,
  h.1,
)
fits_form w (k.lambda a b) (v.lambda t r) h = (h.0, h.1)
fits_form w (k.contract a) (v.bytes b) h = h.0
fits_form w (k.ticket a) (v.ticket issuer kind content amount) h = (h.0, fits_form w a content h.1, h.2)
fits_form w _ _ h = absurd h

all_hold : (P : Val → Type 0) → ((x : Val) → P x → HoldsNoOperation x) → (xs : Vals) → AllHave P xs → HoldNoOperation xs
all_hold P f no_val h = tt
all_hold P f (more_vals x xs) h = (f x h.0, all_hold P f xs h.1)

entries_hold : (P Q : Val → Type 0) → ((x : Val) → P x → HoldsNoOperation x) → ((x : Val) → Q x → HoldsNoOperation x) →
    (es : Pairs) → AllEntriesHave P Q es → EntriesHoldNoOperation es
entries_hold P Q f g no_pair h = tt
entries_hold P Q f g (more_pairs x y es) h = (f x h.0, g y h.1, entries_hold P Q f g es h.2)

simple_holds : (u : Simple) (x : Val) → has_simple_form u x ≡ true → HoldsNoOperation x
simple_holds s.Unit v.unit h = tt
simple_holds s.Bool (v.truth b) h = tt
simple_holds s.Int (v.number n) h = tt
simple_holds s.Timestamp (v.number n) h = tt
simple_holds s.Nat (v.number n) h = tt
simple_holds s.Mutez (v.number n) h = tt
simple_holds s.String (v.text b) h = tt
simple_holds s.Bytes (v.bytes b) h = tt
simple_holds s.KeyHash (v.bytes b) h = tt
simple_holds s.Key (v.bytes b) h = tt
simple_holds s.Signature (v.bytes b) h = tt
simple_holds s.ChainId (v.bytes b) h = tt
simple_holds s.Address (v.bytes b) h = tt
simple_holds u x h = absurd cc

pub pushable_holds : (w : Known) (a : Kind) (x : Val) → pushable a ≡ true → Fits w a x → HoldsNoOperation x
pushable_holds w (k.simple u) x e h = simple_holds u x h
pushable_holds w k.operation x e h = absurd cc
pushable_holds w (k.option a) v.nothing e h = tt
pushable_holds w (k.option a) (v.some x) e h = pushable_holds w a x e h
pushable_holds w (k.or a b) (v.left x) e h = pushable_holds w a x (and_parts (pushable a) (pushable b) e).0 h
pushable_holds w (k.or a b) (v.right x) e h = pushable_holds w b x (and_parts (pushable a) (pushable b) e).1 h
pushable_holds w (k.pair a b) (v.both x y) e h = let es = and_parts (pushable a) (pushable b) e in
    (pushable_holds w a x es.0 h.0, pushable_holds w b y es.1 h.1)
pushable_holds w (k.list a) (v.list xs) e h = all_hold (Fits w a) (λ x i. pushable_holds w a x e i) xs h
pushable_holds w (k.set a) (v.set xs) e h = all_hold (Fits w a) (λ x i. pushable_holds w a x e i) xs h.0
pushable_holds w (k.map a b) (v.table es) e h =
    let ps = and_parts (pushable a) (pushable b) e in
    entries_hold (Fits w a) (Fits w b) (λ x i. pushable_holds w a x ps.0 i) (λ x i. pushable_holds w b x ps.1 i) es h.0
pushable_holds w (k.big_map a b) x e h = absurd cc
pushable_holds w (k.lambda a b) (v.lambda t r) e h = tt
pushable_holds w (k.contract a) x e h = absurd cc
pushable_holds w (k.ticket a) x e h = absurd cc
pushable_holds w _ _ e h = absurd h
