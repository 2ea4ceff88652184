-- Values of types without operations fit, whatever was issued.
use Rattle.std.proofs.Common.{◌≡◌, ℕ, List, Bool, true, false, ◌&&◌, refl}
use Rattle.std.proofs.lemmas.Bool.{and_parts, and_from}
use Rattle.rules_data.specs.types.Kind.{Kind}
use Rattle.rules_data.specs.types.Kind as k
use Rattle.rules_data.specs.types.Attributes.{comparable, passable, storable, pushable}
use Rattle.rules_data.specs.values.Val.{Val, Vals, no_val, more_vals, Pairs, no_pair, more_pairs}
use Rattle.rules_data.specs.values.Val as v
use Rattle.rules_data.specs.values.Forms.{AllHave, AllEntriesHave}
use Rattle.rules_code.specs.typing.Fits.{Known, Fits}
use Rattle.laws_data.specs.types.Laws.{IsWellFormed}

-- no operation is a part of a value of the type
abbrev pub is_free : Kind → Bool
is_free (k.simple s) = true
is_free k.operation = false
is_free (k.option a) = is_free a
is_free (k.or a b) = is_free a && is_free b
is_free (k.pair a b) = is_free a && is_free b
is_free (k.list a) = is_free a
is_free (k.set a) = is_free a
is_free (k.map a b) = is_free a && is_free b
is_free (k.big_map a b) = is_free a && is_free b
is_free (k.lambda a b) = true
is_free (k.contract a) = true
is_free (k.ticket a) = true

both_free : (p q x y : Bool) → (p ≡ true → x ≡ true) → (q ≡ true → y ≡ true) → (p && q) ≡ true → (x && y) ≡ true
both_free p q x y f g h = let hs = and_parts p q h in and_from x y (f hs.0) (g hs.1)

pub passable_free : (a : Kind) → passable a ≡ true → is_free a ≡ true
passable_free (k.simple s) h = refl
passable_free k.operation h = cc
passable_free (k.option a) h = passable_free a h
passable_free (k.or a b) h = both_free _ _ _ _ (passable_free a) (passable_free b) h
passable_free (k.pair a b) h = both_free _ _ _ _ (passable_free a) (passable_free b) h
passable_free (k.list a) h = passable_free a h
passable_free (k.set a) h = passable_free a h
passable_free (k.map a b) h = both_free _ _ _ _ (passable_free a) (passable_free b) h
passable_free (k.big_map a b) h = both_free _ _ _ _ (passable_free a) (passable_free b) h
passable_free (k.lambda a b) h = refl
passable_free (k.contract a) h = refl
passable_free (k.ticket a) h = refl

pub storable_free : (a : Kind) → storable a ≡ true → is_free a ≡ true
storable_free (k.simple s) h = refl
storable_free k.operation h = cc
storable_free (k.option a) h = storable_free a h
storable_free (k.or a b) h = both_free _ _ _ _ (storable_free a) (storable_free b) h
storable_free (k.pair a b) h = both_free _ _ _ _ (storable_free a) (storable_free b) h
storable_free (k.list a) h = storable_free a h
storable_free (k.set a) h = storable_free a h
storable_free (k.map a b) h = both_free _ _ _ _ (storable_free a) (storable_free b) h
storable_free (k.big_map a b) h = both_free _ _ _ _ (storable_free a) (storable_free b) h
storable_free (k.lambda a b) h = refl
storable_free (k.contract a) h = refl
storable_free (k.ticket a) h = refl

-- ---- values

all_vals : (P Q : Val → Type 0) → ((x : Val) → P x → Q x) → (xs : Vals) → AllHave P xs → AllHave Q xs
all_vals P Q f no_val h = tt
all_vals P Q f (more_vals x xs) h = (f x h.0, all_vals P Q f xs h.1)

all_pairs : (P Q R S : Val → Type 0) → ((x : Val) → P x → R x) → ((x : Val) → Q x → S x) → (es : Pairs) →
    AllEntriesHave P Q es → AllEntriesHave R S es
all_pairs P Q R S f g no_pair h = tt
all_pairs P Q R S f g (more_pairs x y es) h = (f x h.0, g y h.1, all_pairs P Q R S f g es h.2)

-- the same contracts are there
abbrev pub SameContracts : Known → Known → Type 0
SameContracts w u = (b : List ℕ) (a : Kind) → w.is_contract b a → u.is_contract b a

module _ (w u : Known) (same : SameContracts w u) where
  -- what tickets are of
  compared : (a : Kind) (x : Val) → comparable a ≡ true → Fits w a x → Fits u a x
  compared (k.simple s) x c h = h
  compared (k.option a) v.nothing c h = tt
  compared (k.option a) (v.some x) c h = compared a x c h
  compared (k.or a b) (v.left x) c h = compared a x (and_parts (comparable a) (comparable b) c).0 h
  compared (k.or a b) (v.right x) c h = compared b x (and_parts (comparable a) (comparable b) c).1 h
  compared (k.pair a b) (v.both x y) c h = (
    compared a x (and_parts (comparable a) (comparable b) c).0 h.0,
    compared b y
        (and_parts (comparable a) (comparable b) c).1 h.1,
  )
  compared (k.list a) x c h = absurd cc
  compared (k.set a) x c h = absurd cc
  compared (k.map a b) x c h = absurd cc
  compared (k.big_map a b) x c h = absurd cc
  compared (k.lambda a b) x c h = absurd cc
  compared (k.contract a) x c h = absurd cc
  compared k.operation x c h = absurd cc
  compared (k.ticket a) x c h = absurd cc
  compared _ _ c h = absurd h

  pub unissued : (a : Kind) (x : Val) → IsWellFormed a → is_free a ≡ true → Fits w a x → Fits u a x
  unissued (k.simple s) x i f h = h
  unissued (k.option a) v.nothing i f h = tt
  unissued (k.option a) (v.some x) i f h = unissued a x i f h
  unissued (k.or a b) (v.left x) i f h = unissued a x i.0 (and_parts (is_free a) (is_free b) f).0 h
  unissued (k.or a b) (v.right x) i f h = unissued b x i.1 (and_parts (is_free a) (is_free b) f).1 h
  unissued (k.pair a b) (v.both x y) i f h = (
    unissued a x i.0 (and_parts (is_free a) (is_free b) f).0 h.0,
    unissued b y i.1
        (and_parts (is_free a) (is_free b) f).1 h.1,
  )
  unissued (k.list a) (v.list xs) i f h = all_vals (Fits w a) (Fits u a) (λ x g. unissued a x i f g) xs h
  unissued (k.set a) (v.set xs) i f h = (all_vals (Fits w a) (Fits u a) (λ x g. unissued a x i.1 f g) xs h.0, h.1)
  unissued (k.map a b) (v.table es) i f h = (
    all_pairs (Fits w a) (Fits w b) (Fits u a) (Fits u b) (λ x g. unissued a x i.1
        (and_parts (is_free a) (is_free b) f).0 g) (λ x g. unissued b x i.2 (and_parts (is_free a) (is_free b) f).1 g) es
        h.0,
    h.1,
  )
  unissued (k.big_map a b) (v.big_table es) i f h = (
    all_pairs (Fits w a) (Fits w b) (Fits u a) (Fits u b) (λ x g. unissued a x i.2
        (and_parts (is_free a) (is_free b) f).0 g) (λ x g. unissued b x i.3 (and_parts (is_free a) (is_free b) f).1 g) es
        h.0,
    h.1,
  )
  unissued (k.lambda a b) (v.lambda t r) i f h = h
  unissued (k.contract a) (v.bytes b) i f h = (h.0, same b a h.1)
  unissued k.operation x i f h = absurd cc
  unissued (k.ticket a) (v.ticket issuer kind content amount) i f h = (h.0, compared a content i.0 h.1, h.2, h.3)
  unissued _ _ i f h = absurd h

-- what is pushable holds no contract, no ticket and no operation
pub pushed : (w u : Known) (a : Kind) (x : Val) → pushable a ≡ true → Fits w a x → Fits u a x
pushed w u (k.simple s) x p h = h
pushed w u (k.option a) v.nothing p h = tt
pushed w u (k.option a) (v.some x) p h = pushed w u a x p h
pushed w u (k.or a b) (v.left x) p h = pushed w u a x (and_parts (pushable a) (pushable b) p).0 h
pushed w u (k.or a b) (v.right x) p h = pushed w u b x (and_parts (pushable a) (pushable b) p).1 h
pushed w u (k.pair a b) (v.both x y) p h = (
  pushed w u a x (and_parts (pushable a) (pushable b) p).0 h.0,
  pushed w u b y
      (and_parts (pushable a) (pushable b) p).1 h.1,
)
pushed w u (k.list a) (v.list xs) p h = all_vals (Fits w a) (Fits u a) (λ x g. pushed w u a x p g) xs h
pushed w u (k.set a) (v.set xs) p h = (all_vals (Fits w a) (Fits u a) (λ x g. pushed w u a x p g) xs h.0, h.1)
pushed w u (k.map a b) (v.table es) p h = (
  all_pairs (Fits w a) (Fits w b) (Fits u a) (Fits u b) (λ x g. pushed w u a x (and_parts (pushable a) (pushable b) p).0 g)
      (λ x g. pushed w u b x (and_parts (pushable a) (pushable b) p).1 g) es h.0,
  h.1,
)
pushed w u (k.lambda a b) (v.lambda t r) p h = h
pushed w u (k.big_map a b) x p h = absurd cc
pushed w u (k.contract a) x p h = absurd cc
pushed w u k.operation x p h = absurd cc
pushed w u (k.ticket a) x p h = absurd cc
pushed w u _ _ p h = absurd h
