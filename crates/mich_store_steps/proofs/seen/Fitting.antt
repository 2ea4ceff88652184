-- What fits a type holds big maps whose keys increase; and what can be pushed holds none.
use Rattle.std.proofs.Common.{◌≡◌, true, refl}
use Rattle.std.proofs.lemmas.Bool.{and_parts, and_from}
use Rattle.rules_data.specs.declared.types.Simple.{Simple}
use Rattle.rules_data.specs.declared.types.Simple.TheVariants as s
use Rattle.rules_data.specs.types.Attributes.{pushable}
use Rattle.rules_data.specs.types.Kind.{Kind}
use Rattle.rules_data.specs.types.Kind as k
use Rattle.rules_data.specs.values.Forms.{has_simple_form, AllHave, AllEntriesHave}
use Rattle.rules_data.specs.values.Val.{Val, Vals, Pairs, no_val, more_vals, no_pair, more_pairs}
use Rattle.rules_data.specs.values.Val as v
use Rattle.rules_code.specs.typing.Fits.{Known, Fits}
use Rattle.mich_term.specs.ValueView.{val}
use Rattle.mich_term.specs.declared.value.Value.{Value}
use Rattle.mich_stack.specs.Views.{Sight, seen}
use Rattle.mich_store_steps.specs.seen.Sights.{is_plain, are_plain, entries_plain, IsSane, AreSane, EntriesSane}
use Rattle.mich_store_steps.proofs.seen.Parts.{plain_tells, plain_seen}

-- ---- keys increase

simple_sane : (u : Simple) (x : Val) → has_simple_form u x ≡ true → IsSane x
simple_sane s.Unit v.unit h = tt
simple_sane s.Bool (v.truth b) h = tt
simple_sane s.Int (v.number n) h = tt
simple_sane s.Timestamp (v.number n) h = tt
simple_sane s.Nat (v.number n) h = tt
simple_sane s.Mutez (v.number n) h = tt
simple_sane s.String (v.text b) h = tt
simple_sane s.Bytes (v.bytes b) h = tt
simple_sane s.KeyHash (v.bytes b) h = tt
simple_sane s.Key (v.bytes b) h = tt
simple_sane s.Signature (v.bytes b) h = tt
simple_sane s.ChainId (v.bytes b) h = tt
simple_sane s.Address (v.bytes b) h = tt
simple_sane _ _ h = absurd cc

all_sane : (P : Val → Type 0) → ((x : Val) → P x → IsSane x) → (xs : Vals) → AllHave P xs → AreSane xs
all_sane P one no_val h = tt
all_sane P one (more_vals x xs) h = (one x h.0, all_sane P one xs h.1)

entries_sane : (P Q : Val → Type 0) → ((x : Val) → Q x → IsSane x) → (es : Pairs) → AllEntriesHave P Q es → EntriesSane es
entries_sane P Q one no_pair h = tt
entries_sane P Q one (more_pairs x y es) h = (one y h.1, entries_sane P Q one es h.2)

module _ (w : Known) where
  pub fits_sane : (a : Kind) (x : Val) → Fits w a x → IsSane x
  fits_sane (k.simple u) x h = simple_sane u x h
  fits_sane k.operation (v.operation n) h = tt
  fits_sane (k.option a) v.nothing h = tt
  fits_sane (k.option a) (v.some x) h = fits_sane a x h
  fits_sane (k.or a b) (v.left x) h = fits_sane a x h
  fits_sane (k.or a b) (v.right x) h = fits_sane b x h
  fits_sane (k.pair a b) (v.both x y) h = (fits_sane a x h.0, fits_sane b y h.1)
  fits_sane (k.list a) (v.list xs) h = all_sane (Fits w a) (λ x g. fits_sane a x g) xs h
  fits_sane (k.set a) (v.set xs) h = tt
  fits_sane (k.map a b) (v.table es) h = entries_sane (Fits w a) (Fits w b) (λ x g. fits_sane b x g) es h.0
  fits_sane (k.big_map a b) (v.big_table es) h = h.1
  fits_sane (k.lambda a b) (v.lambda t recursive) h = tt
  fits_sane (k.contract a) (v.bytes b) h = tt
  fits_sane (k.ticket a) (v.ticket issuer kind content amount) h = tt
  fits_sane _ _ h = absurd h

-- ---- no big map

pub simple_plain : (u : Simple) (x : Val) → has_simple_form u x ≡ true → is_plain x ≡ true
simple_plain s.Unit v.unit h = refl
simple_plain s.Bool (v.truth b) h = refl
simple_plain s.Int (v.number n) h = refl
simple_plain s.Timestamp (v.number n) h = refl
simple_plain s.Nat (v.number n) h = refl
simple_plain s.Mutez (v.number n) h = refl
simple_plain s.String (v.text b) h = refl
simple_plain s.Bytes (v.bytes b) h = refl
simple_plain s.KeyHash (v.bytes b) h = refl
simple_plain s.Key (v.bytes b) h = refl
simple_plain s.Signature (v.bytes b) h = refl
simple_plain s.ChainId (v.bytes b) h = refl
simple_plain s.Address (v.bytes b) h = refl
simple_plain _ _ h = absurd cc

pub each_plain : (P : Val → Type 0) → ((x : Val) → P x → is_plain x ≡ true) → (xs : Vals) → AllHave P xs → are_plain xs ≡ true
each_plain P one no_val h = refl
each_plain P one (more_vals x xs) h = and_from _ _ (one x h.0) (each_plain P one xs h.1)

pub each_entry_plain : (P Q : Val → Type 0) → ((x : Val) → Q x → is_plain x ≡ true) → (es : Pairs) → AllEntriesHave P Q es → entries_plain es ≡ true
each_entry_plain P Q one no_pair h = refl
each_entry_plain P Q one (more_pairs x y es) h = and_from _ _ (one y h.1) (each_entry_plain P Q one es h.2)

module _ (w : Known) where
  pub pushable_plain : (a : Kind) (x : Val) → pushable a ≡ true → Fits w a x → is_plain x ≡ true
  pushable_plain (k.simple u) x p h = simple_plain u x h
  pushable_plain (k.option a) v.nothing p h = refl
  pushable_plain (k.option a) (v.some x) p h = pushable_plain a x p h
  pushable_plain (k.or a b) (v.left x) p h = pushable_plain a x (and_parts (pushable a) (pushable b) p).0 h
  pushable_plain (k.or a b) (v.right x) p h = pushable_plain b x (and_parts (pushable a) (pushable b) p).1 h
  pushable_plain (k.pair a b) (v.both x y) p h =
      let q = and_parts (pushable a) (pushable b) p in and_from _ _ (pushable_plain a x q.0 h.0) (pushable_plain b y q.1 h.1)
  pushable_plain (k.list a) (v.list xs) p h = each_plain (Fits w a) (λ x g. pushable_plain a x p g) xs h
  pushable_plain (k.set a) (v.set xs) p h = refl
  pushable_plain (k.map a b) (v.table es) p h =
      let q = and_parts (pushable a) (pushable b) p in each_entry_plain (Fits w a) (Fits w b) (λ x g. pushable_plain b x q.1 g) es h.0
  pushable_plain (k.lambda a b) (v.lambda t recursive) p h = refl
  pushable_plain k.operation x p h = absurd cc
  pushable_plain (k.big_map a b) x p h = absurd cc
  pushable_plain (k.contract a) x p h = absurd cc
  pushable_plain (k.ticket a) x p h = absurd cc
  pushable_plain _ _ p h = absurd h

  -- what can be pushed is seen alike by all
  pub pushable_seen : (big : Sight) (a : Kind) (x : Value) → pushable a ≡ true → Fits w a (seen big x) → seen big x ≡ val x
  pushable_seen big a x p h = plain_seen big x (plain_tells big x (pushable_plain a (seen big x) p h))
