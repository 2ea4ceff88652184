-- Values that fit go on to fit when more operations are issued, and packable ones whatever was issued.
use Rattle.std.proofs.Common.{◌≡◌, ℕ, true, List, [], ◌∷◌}
use Rattle.std.proofs.lemmas.Bool.{and_parts}
use Rattle.rules_data.specs.types.Kind.{Kind}
use Rattle.rules_data.specs.types.Kind as k
use Rattle.rules_data.specs.types.Attributes.{packable}
use Rattle.rules_data.specs.values.Val.{Val, Vals, no_val, more_vals, Pairs, no_pair, more_pairs}
use Rattle.rules_data.specs.values.Val as v
use Rattle.rules_data.specs.values.Forms.{AllHave, AllEntriesHave}
use Rattle.rules_code.specs.typing.Fits.{Known, Fits, AllFit}

pub all_have : (P Q : Val → Type 0) → ((x : Val) → P x → Q x) → (xs : Vals) → AllHave P xs → AllHave Q xs
all_have P Q f no_val h = tt
all_have P Q f (more_vals x xs) h = (f x h.0, all_have P Q f xs h.1)

pub entries_have : (P Q R S : Val → Type 0) → ((x : Val) → P x → R x) → ((x : Val) → Q x → S x) → (es : Pairs) →
    AllEntriesHave P Q es → AllEntriesHave R S es
entries_have P Q R S f g no_pair h = tt
entries_have P Q R S f g (more_pairs x y es) h = (f x h.0, g y h.1, entries_have P Q R S f g es h.2)

pub record Knows (w u : Known) : Type 1 where
  pub contracts : (b : List ℕ) (a : Kind) → w.is_contract b a → u.is_contract b a
  pub issued : (n : ℕ) → w.is_issued n → u.is_issued n

pub fits_grow : (w u : Known) → Knows w u → (a : Kind) (x : Val) → Fits w a x → Fits u a x
fits_grow w u g (k.simple s) x h = h
fits_grow w u g k.operation (v.operation n) h = g.issued n h
fits_grow w u g (k.option a) v.nothing h = tt
fits_grow w u g (k.option a) (v.some x) h = fits_grow w u g a x h
fits_grow w u g (k.or a b) (v.left x) h = fits_grow w u g a x h
fits_grow w u g (k.or a b) (v.right x) h = fits_grow w u g b x h
fits_grow w u g (k.pair a b) (v.both x y) h = (fits_grow w u g a x h.0, fits_grow w u g b y h.1)
fits_grow w u g (k.list a) (v.list xs) h = all_have (Fits w a) (Fits u a) (fits_grow w u g a) xs h
fits_grow w u g (k.set a) (v.set xs) h = (all_have (Fits w a) (Fits u a) (fits_grow w u g a) xs h.0, h.1)
fits_grow w u g (k.map a b) (v.table es) h = (
  entries_have (Fits w a) (Fits w b) (Fits u a) (Fits u b) (fits_grow w u g a)
      (fits_grow w u g b) es h.0,
  h.1,
)
fits_grow w u g (k.big_map a b) (v.big_table es) h = (
  entries_have (Fits w a) (Fits w b) (Fits u a) (Fits u b)
      (fits_grow w u g a) (fits_grow w u g b) es h.0,
  h.1,
)
fits_grow w u g (k.lambda a b) (v.lambda t r) h = h
fits_grow w u g (k.contract a) (v.bytes b) h = (h.0, g.contracts b a h.1)
fits_grow w u g (k.ticket a) (v.ticket issuer kind content amount) h = (h.0, fits_grow w u g a content h.1, h.2, h.3)
fits_grow w u g _ _ h = absurd h

pub all_grow : (w u : Known) → Knows w u → (A : List Kind) (V : List Val) → AllFit w A V → AllFit u A V
all_grow w u g [] [] h = tt
all_grow w u g (a ∷ A) (x ∷ V) h = (fits_grow w u g a x h.0, all_grow w u g A V h.1)
all_grow w u g _ _ h = absurd h

pub fits_packed : (w u : Known) → ((b : List ℕ) (a : Kind) → w.is_contract b a → u.is_contract b a) → (a : Kind) (x : Val) →
    packable a ≡ true → Fits w a x → Fits u a x
fits_packed w u g (k.simple s) x e h = h
fits_packed w u g k.operation x e h = absurd cc
fits_packed w u g (k.option a) v.nothing e h = tt
fits_packed w u g (k.option a) (v.some x) e h = fits_packed w u g a x e h
fits_packed w u g (k.or a b) (v.left x) e h = fits_packed w u g a x (and_parts _ _ e).0 h
fits_packed w u g (k.or a b) (v.right x) e h = fits_packed w u g b x (and_parts _ _ e).1 h
fits_packed w u g (k.pair a b) (v.both x y) e h = (
  fits_packed w u g a x (and_parts _ _ e).0 h.0,
  fits_packed w u g b y
      (and_parts _ _ e).1 h.1,
)
fits_packed w u g (k.list a) (v.list xs) e h = all_have (Fits w a) (Fits u a) (λ x i. fits_packed w u g a x e i) xs h
fits_packed w u g (k.set a) (v.set xs) e h = (all_have (Fits w a) (Fits u a) (λ x i. fits_packed w u g a x e i) xs h.0, h.1)
fits_packed w u g (k.map a b) (v.table es) e h = (
  entries_have (Fits w a) (Fits w b) (Fits u a) (Fits u b) (λ x i. fits_packed w u g a x (and_parts _ _ e).0 i)
      (λ x i. fits_packed w u g b x (and_parts _ _ e).1 i) es h.0,
  h.1,
)
fits_packed w u g (k.big_map a b) x e h = absurd cc
fits_packed w u g (k.lambda a b) (v.lambda t r) e h = h
fits_packed w u g (k.contract a) (v.bytes b) e h = (h.0, g b a h.1)
fits_packed w u g (k.ticket a) x e h = absurd cc
fits_packed w u g _ _ e h = absurd h
