-- Where big maps lie in a value of a type, part by part.
use Rattle.std.proofs.Common.{◌≡◌, Bool, true, false, List, [], ◌∷◌, ◌++◌, refl, sym, ap, ◌∙◌, subst}
use Rattle.std.specs.List.{AllByRecursion}
use Rattle.rules_data.specs.types.Kind.{Kind}
use Rattle.rules_data.specs.types.Kind as k
use Rattle.mich_term.specs.Holding.{any_entry_carries}
use Rattle.mich_term.specs.Layers.{NoBigMap}
use Rattle.mich_term.specs.ValueView.{big_pairs}
use Rattle.mich_term.specs.declared.datum.Datum.{Datum}
use Rattle.mich_term.specs.declared.value.Value.{Value, out-Value, roll-Value, out-roll-Value, roll-out-Value}
use Rattle.mich_term.specs.declared.value.Value.TheOpen.{Value-F}
use Rattle.mich_term.specs.declared.value.Value.TheVariants as v
use Rattle.mich_term.specs.declared.value.Value.TheVariants.{rolls-Some, rolls-Left, rolls-Right, rolls-Pair, rolls-List, rolls-Map, rolls-BigMap}
use Rattle.mich_term.specs.declared.value.BigMap.{BigMap}
use Rattle.mich_term.proofs.ForCallers.{or_parts}
use Rattle.mich_term.proofs.ForCallers.Each as e
use Rattle.mich_bigmap.specs.Settled.{IsSettled}
use Rattle.mich_bigmap.specs.Shared.{Level, inner, first, second, entry, shares, InOption, InEither, InPair, InList, InMap, InBig, InLevel, InValue, names_big_map, HasBaseWhere, HasNoneWhere, SettledBy, AloneBy, SharesBy, ShareBy, EntriesShareBy, SharesBig}

-- ---- levels

out_some : (x : Value) → out-Value (v.Some x) ≡ Value-F.Some x
out_some x = ap out-Value (sym (rolls-Some x)) ∙ out-roll-Value (Value-F.Some x)

out_left : (x : Value) → out-Value (v.Left x) ≡ Value-F.Left x
out_left x = ap out-Value (sym (rolls-Left x)) ∙ out-roll-Value (Value-F.Left x)

out_right : (x : Value) → out-Value (v.Right x) ≡ Value-F.Right x
out_right x = ap out-Value (sym (rolls-Right x)) ∙ out-roll-Value (Value-F.Right x)

out_pair : (x y : Value) → out-Value (v.Pair x y) ≡ Value-F.Pair x y
out_pair x y = ap out-Value (sym (rolls-Pair x y)) ∙ out-roll-Value (Value-F.Pair x y)

out_list : (xs : List Value) → out-Value (v.List xs) ≡ Value-F.List xs
out_list xs = ap out-Value (sym (rolls-List xs)) ∙ out-roll-Value (Value-F.List xs)

out_map : (es : List (Datum × Value)) → out-Value (v.Map es) ≡ Value-F.Map es
out_map es = ap out-Value (sym (rolls-Map es)) ∙ out-roll-Value (Value-F.Map es)

out_big : (m : BigMap) → out-Value (v.BigMap m) ≡ Value-F.BigMap m
out_big m = ap out-Value (sym (rolls-BigMap m)) ∙ out-roll-Value (Value-F.BigMap m)

module _ (P : Bool → BigMap → Type 0) where
  -- ---- from the parts, where something was so or nothing is asked

  on_some : (a : Kind) (x : Value) → InValue P (inner a) x → InLevel P a (Value-F.Some x)
  on_some (k.option a) x h = h
  on_some _ x h = tt

  on_left : (a : Kind) (x : Value) → InValue P (first a) x → InLevel P a (Value-F.Left x)
  on_left (k.or a b) x h = h
  on_left _ x h = tt

  on_right : (a : Kind) (x : Value) → InValue P (second a) x → InLevel P a (Value-F.Right x)
  on_right (k.or a b) x h = h
  on_right _ x h = tt

  on_pair : (a : Kind) (x y : Value) → InValue P (first a) x → InValue P (second a) y → InLevel P a (Value-F.Pair x y)
  on_pair (k.pair a b) x y h j = (h, j)
  on_pair _ x y h j = tt

  on_list : (a : Kind) (xs : List Value) → AllByRecursion (InValue P (inner a)) xs → InLevel P a (Value-F.List xs)
  on_list (k.list a) xs h = h
  on_list _ xs h = tt

  on_map : (a : Kind) (es : List (Datum × Value)) → AllByRecursion (λ x. InValue P (entry a) x.1) es → InLevel P a (Value-F.Map es)
  on_map (k.map a b) es h = h
  on_map _ es h = tt

  on_big : (a : Kind) (m : BigMap) → P (shares a) m → InLevel P a (Value-F.BigMap m)
  on_big (k.big_map a b) m h = h
  on_big _ m h = tt

  -- ---- from a value with other parts

  move_some : (a : Kind) (x y : Value) → (InValue P (inner a) x → InValue P (inner a) y) → InLevel P a (Value-F.Some x) → InLevel P a (Value-F.Some y)
  move_some (k.option a) x y f h = f h
  move_some _ x y f h = tt

  move_left : (a : Kind) (x y : Value) → (InValue P (first a) x → InValue P (first a) y) → InLevel P a (Value-F.Left x) → InLevel P a (Value-F.Left y)
  move_left (k.or a b) x y f h = f h
  move_left _ x y f h = tt

  move_right : (a : Kind) (x y : Value) → (InValue P (second a) x → InValue P (second a) y) → InLevel P a (Value-F.Right x) → InLevel P a (Value-F.Right y)
  move_right (k.or a b) x y f h = f h
  move_right _ x y f h = tt

  move_pair : (a : Kind) (x y x' y' : Value) → (InValue P (first a) x → InValue P (first a) x') → (InValue P (second a) y → InValue P (second a) y') →
      InLevel P a (Value-F.Pair x y) → InLevel P a (Value-F.Pair x' y')
  move_pair (k.pair a b) x y x' y' f g h = (f h.0, g h.1)
  move_pair _ x y x' y' f g h = tt

  move_list : (a : Kind) (xs ys : List Value) → (AllByRecursion (InValue P (inner a)) xs → AllByRecursion (InValue P (inner a)) ys) →
      InLevel P a (Value-F.List xs) → InLevel P a (Value-F.List ys)
  move_list (k.list a) xs ys f h = f h
  move_list _ xs ys f h = tt

  move_map : (a : Kind) (es fs : List (Datum × Value)) → (AllByRecursion (λ x. InValue P (entry a) x.1) es → AllByRecursion (λ x. InValue P (entry a) x.1) fs) →
      InLevel P a (Value-F.Map es) → InLevel P a (Value-F.Map fs)
  move_map (k.map a b) es fs f h = f h
  move_map _ es fs f h = tt

  move_big : (a : Kind) (m n : BigMap) → (P (shares a) m → P (shares a) n) → InLevel P a (Value-F.BigMap m) → InLevel P a (Value-F.BigMap n)
  move_big (k.big_map a b) m n f h = f h
  move_big _ m n f h = tt

  -- ---- of levels that are the same

  at : (a : Kind) (x : Value) (l : Level) → out-Value x ≡ l → InLevel P a l → InValue P a x
  at a x l e h = subst (InLevel P a) (sym e) h

  back : (a : Kind) (x : Value) (l : Level) → out-Value x ≡ l → InValue P a x → InLevel P a l
  back a x l e h = subst (InLevel P a) e h

  -- ---- a value without big maps

  abbrev Plain : Level → Type 0
  Plain l = e.Each NoBigMap (roll-Value l)

  each_list : (Q : Value → Type 0) → ((x : Value) → Plain (out-Value x) → Q x) → (xs : List Value) → AllByRecursion (e.Each NoBigMap) xs → AllByRecursion Q xs
  each_list Q f [] h = tt
  each_list Q f (x ∷ xs) h = (f x (subst (e.Each NoBigMap) (sym (roll-out-Value x)) h.0), each_list Q f xs h.1)

  each_entry : (Q : Value → Type 0) → ((x : Value) → Plain (out-Value x) → Q x) → (es : List (Datum × Value)) → AllByRecursion (e.EachEntry NoBigMap) es → AllByRecursion (λ x. Q x.1) es
  each_entry Q f [] h = tt
  each_entry Q f (x ∷ xs) h = (f x.1 (subst (e.Each NoBigMap) (sym (roll-out-Value x.1)) h.0), each_entry Q f xs h.1)

  from : (Q : Value → Type 0) → ((x : Value) → Plain (out-Value x) → Q x) → (x : Value) → e.Each NoBigMap x → Q x
  from Q f x h = f x (subst (e.Each NoBigMap) (sym (roll-out-Value x)) h)

  plain_option : (Q : Value → Type 0) → ((x : Value) → Plain (out-Value x) → Q x) → (l : Level) → Plain l → InOption l Q
  plain_option Q f (Value-F.Some x) h = from Q f x (e.layer_some NoBigMap x h)
  plain_option Q f _ h = tt

  plain_either : (Q R : Value → Type 0) → ((x : Value) → Plain (out-Value x) → Q x) → ((x : Value) → Plain (out-Value x) → R x) → (l : Level) → Plain l → InEither l Q R
  plain_either Q R f g (Value-F.Left x) h = from Q f x (e.layer_left NoBigMap x h)
  plain_either Q R f g (Value-F.Right x) h = from R g x (e.layer_right NoBigMap x h)
  plain_either Q R f g _ h = tt

  plain_pair : (Q R : Value → Type 0) → ((x : Value) → Plain (out-Value x) → Q x) → ((x : Value) → Plain (out-Value x) → R x) → (l : Level) → Plain l → InPair l Q R
  plain_pair Q R f g (Value-F.Pair x y) h = let q = e.layer_pair NoBigMap x y h in (from Q f x q.0, from R g y q.1)
  plain_pair Q R f g _ h = tt

  plain_list : (Q : Value → Type 0) → ((x : Value) → Plain (out-Value x) → Q x) → (l : Level) → Plain l → InList l Q
  plain_list Q f (Value-F.List xs) h = each_list Q f xs (e.layer_list NoBigMap xs h)
  plain_list Q f _ h = tt

  plain_map : (Q : Value → Type 0) → ((x : Value) → Plain (out-Value x) → Q x) → (l : Level) → Plain l → InMap l Q
  plain_map Q f (Value-F.Map es) h = each_entry Q f es (e.layer_map NoBigMap es h)
  plain_map Q f _ h = tt

  plain_big : (Q : BigMap → Type 0) (l : Level) → Plain l → InBig l Q
  plain_big Q (Value-F.BigMap m) h = absurd (e.here NoBigMap m (e.layer_big NoBigMap m h))
  plain_big Q _ h = tt

  on_plain : (a : Kind) (x : Value) → Plain (out-Value x) → InValue P a x
  on_plain (k.simple s) x h = tt
  on_plain k.operation x h = tt
  on_plain (k.option a) x h = plain_option (InValue P a) (on_plain a) (out-Value x) h
  on_plain (k.or a b) x h = plain_either (InValue P a) (InValue P b) (on_plain a) (on_plain b) (out-Value x) h
  on_plain (k.pair a b) x h = plain_pair (InValue P a) (InValue P b) (on_plain a) (on_plain b) (out-Value x) h
  on_plain (k.list a) x h = plain_list (InValue P a) (on_plain a) (out-Value x) h
  on_plain (k.set a) x h = tt
  on_plain (k.map a b) x h = plain_map (InValue P b) (on_plain b) (out-Value x) h
  on_plain (k.big_map a b) x h = plain_big (P _) (out-Value x) h
  on_plain (k.lambda a b) x h = tt
  on_plain (k.contract a) x h = tt
  on_plain (k.ticket a) x h = tt

  in_plain : (a : Kind) (x : Value) → e.Each NoBigMap x → InValue P a x
  in_plain a x h = from (InValue P a) (on_plain a) x h

  -- ---- a value whose type names no big map

  any_option : (Q : Value → Type 0) → ((x : Value) → Q x) → (l : Level) → InOption l Q
  any_option Q f (Value-F.Some x) = f x
  any_option Q f _ = tt

  any_either : (Q R : Value → Type 0) → ((x : Value) → Q x) → ((x : Value) → R x) → (l : Level) → InEither l Q R
  any_either Q R f g (Value-F.Left x) = f x
  any_either Q R f g (Value-F.Right x) = g x
  any_either Q R f g _ = tt

  any_pair : (Q R : Value → Type 0) → ((x : Value) → Q x) → ((x : Value) → R x) → (l : Level) → InPair l Q R
  any_pair Q R f g (Value-F.Pair x y) = (f x, g y)
  any_pair Q R f g _ = tt

  all_of : (Q : Value → Type 0) → ((x : Value) → Q x) → (xs : List Value) → AllByRecursion Q xs
  all_of Q f [] = tt
  all_of Q f (x ∷ xs) = (f x, all_of Q f xs)

  any_list : (Q : Value → Type 0) → ((x : Value) → Q x) → (l : Level) → InList l Q
  any_list Q f (Value-F.List xs) = all_of Q f xs
  any_list Q f _ = tt

  all_entries : (Q : Value → Type 0) → ((x : Value) → Q x) → (es : List (Datum × Value)) → AllByRecursion (λ x. Q x.1) es
  all_entries Q f [] = tt
  all_entries Q f (x ∷ xs) = (f x.1, all_entries Q f xs)

  any_map : (Q : Value → Type 0) → ((x : Value) → Q x) → (l : Level) → InMap l Q
  any_map Q f (Value-F.Map es) = all_entries Q f es
  any_map Q f _ = tt

  by_type : (a : Kind) → names_big_map a ≡ false → (x : Value) → InValue P a x
  by_type (k.simple s) n x = tt
  by_type k.operation n x = tt
  by_type (k.option a) n x = any_option (InValue P a) (by_type a n) (out-Value x)
  by_type (k.or a b) n x = let q = or_parts (names_big_map a) (names_big_map b) n in any_either (InValue P a) (InValue P b) (by_type a q.0) (by_type b q.1) (out-Value x)
  by_type (k.pair a b) n x = let q = or_parts (names_big_map a) (names_big_map b) n in any_pair (InValue P a) (InValue P b) (by_type a q.0) (by_type b q.1) (out-Value x)
  by_type (k.list a) n x = any_list (InValue P a) (by_type a n) (out-Value x)
  by_type (k.set a) n x = tt
  by_type (k.map a b) n x = any_map (InValue P b) (by_type b n) (out-Value x)
  by_type (k.big_map a b) n x = absurd cc
  by_type (k.lambda a b) n x = tt
  by_type (k.contract a) n x = tt
  by_type (k.ticket a) n x = tt

-- ---- settling by a type

pub shares_without : (a : Kind) (x : Value) → names_big_map a ≡ false → SharesBy a x x
shares_without a x n = record { settled = by_type HasBaseWhere a n x; alone = λ q. q }

pub shares_at : (a b : Kind) (x y : Value) → a ≡ b → SharesBy a x y → SharesBy b x y
shares_at a b x y e s = subst (λ c. SharesBy c x y) e s

pub share_at : (a b : Kind) (xs ys : List Value) → a ≡ b → ShareBy a xs ys → ShareBy b xs ys
share_at a b xs ys e s = subst (λ c. ShareBy c xs ys) e s

pub entries_share_at : (a b : Kind) (es fs : List (Datum × Value)) → a ≡ b → EntriesShareBy a es fs → EntriesShareBy b es fs
entries_share_at a b es fs e s = subst (λ c. EntriesShareBy c es fs) e s

pub big_at : (s t : Bool) (m n : BigMap) → s ≡ t → SharesBig s m n → SharesBig t m n
big_at s t m n e h = subst (λ b. SharesBig b m n) e h

pub shares_from : (a : Kind) (x y z : Value) → x ≡ y → SharesBy a y z → SharesBy a x z
shares_from a x y z h s = subst (λ t. SharesBy a t z) (sym h) s

pub shares_plain : (a : Kind) (x : Value) → e.Each NoBigMap x → SharesBy a x x
shares_plain a x h = record { settled = in_plain HasBaseWhere a x h; alone = λ q. q }

pub shares_some : (a : Kind) (x y : Value) → SharesBy (inner a) x y → SharesBy a (v.Some x) (v.Some y)
shares_some a x y s = record {
  settled = at HasBaseWhere a _ _ (out_some y) (on_some HasBaseWhere a y s.settled);
  alone = λ q. at HasNoneWhere a _ _ (out_some y) (move_some HasNoneWhere a x y s.alone (back HasNoneWhere a _ _ (out_some x) q));
}

pub shares_left : (a : Kind) (x y : Value) → SharesBy (first a) x y → SharesBy a (v.Left x) (v.Left y)
shares_left a x y s = record {
  settled = at HasBaseWhere a _ _ (out_left y) (on_left HasBaseWhere a y s.settled);
  alone = λ q. at HasNoneWhere a _ _ (out_left y) (move_left HasNoneWhere a x y s.alone (back HasNoneWhere a _ _ (out_left x) q));
}

pub shares_right : (a : Kind) (x y : Value) → SharesBy (second a) x y → SharesBy a (v.Right x) (v.Right y)
shares_right a x y s = record {
  settled = at HasBaseWhere a _ _ (out_right y) (on_right HasBaseWhere a y s.settled);
  alone = λ q. at HasNoneWhere a _ _ (out_right y) (move_right HasNoneWhere a x y s.alone (back HasNoneWhere a _ _ (out_right x) q));
}

pub shares_pair : (a : Kind) (x y x' y' : Value) → SharesBy (first a) x x' → SharesBy (second a) y y' → SharesBy a (v.Pair x y) (v.Pair x' y')
shares_pair a x y x' y' s t = record {
  settled = at HasBaseWhere a _ _ (out_pair x' y') (on_pair HasBaseWhere a x' y' s.settled t.settled);
  alone = λ q. at HasNoneWhere a _ _ (out_pair x' y') (move_pair HasNoneWhere a x y x' y' s.alone t.alone (back HasNoneWhere a _ _ (out_pair x y) q));
}

pub shares_list : (a : Kind) (xs ys : List Value) → ShareBy (inner a) xs ys → SharesBy a (v.List xs) (v.List ys)
shares_list a xs ys s = record {
  settled = at HasBaseWhere a _ _ (out_list ys) (on_list HasBaseWhere a ys s.settled);
  alone = λ q. at HasNoneWhere a _ _ (out_list ys) (move_list HasNoneWhere a xs ys s.alone (back HasNoneWhere a _ _ (out_list xs) q));
}

pub shares_map : (a : Kind) (es fs : List (Datum × Value)) → EntriesShareBy (entry a) es fs → SharesBy a (v.Map es) (v.Map fs)
shares_map a es fs s = record {
  settled = at HasBaseWhere a _ _ (out_map fs) (on_map HasBaseWhere a fs s.settled);
  alone = λ q. at HasNoneWhere a _ _ (out_map fs) (move_map HasNoneWhere a es fs s.alone (back HasNoneWhere a _ _ (out_map es) q));
}

pub shares_big : (a : Kind) (m n : BigMap) → SharesBig (shares a) m n → SharesBy a (v.BigMap m) (v.BigMap n)
shares_big a m n s = record {
  settled = at HasBaseWhere a _ _ (out_big n) (on_big HasBaseWhere a n s.settled);
  alone = λ q. at HasNoneWhere a _ _ (out_big n) (move_big HasNoneWhere a m n s.alone (back HasNoneWhere a _ _ (out_big m) q));
}

-- ---- lists and entries

all_last : {X : Type 0} (Q : X → Type 0) (xs : List X) (x : X) → AllByRecursion Q xs → Q x → AllByRecursion Q (xs ++ x ∷ [])
all_last Q [] x h p = (p, tt)
all_last Q (y ∷ xs) x h p = (h.0, all_last Q xs x h.1 p)

all_but_last : {X : Type 0} (Q : X → Type 0) (xs : List X) (x : X) → AllByRecursion Q (xs ++ x ∷ []) → AllByRecursion Q xs × Q x
all_but_last Q [] x h = (tt, h.0)
all_but_last Q (y ∷ xs) x h = let q = all_but_last Q xs x h.1 in ((h.0, q.0), q.1)

pub share_empty : (a : Kind) → ShareBy a [] []
share_empty a = record { settled = tt; alone = λ q. q }

pub share_more : (a : Kind) (xs ys : List Value) (x y : Value) → ShareBy a xs ys → SharesBy a x y → ShareBy a (xs ++ x ∷ []) (ys ++ y ∷ [])
share_more a xs ys x y s t = record {
  settled = all_last (SettledBy a) ys y s.settled t.settled;
  alone = λ q. let p = all_but_last (AloneBy a) xs x q in all_last (AloneBy a) ys y (s.alone p.0) (t.alone p.1);
}

pub share_nothing : (a : Kind) → EntriesShareBy a [] []
share_nothing a = record { settled = tt; alone = λ q. q }

pub share_entry : (a : Kind) (xs ys zs : List (Datum × Value)) (d : Datum) (x y : Value) → EntriesShareBy a xs ys → SharesBy a x y → zs ≡ ys ++ (d, y) ∷ [] →
    EntriesShareBy a (xs ++ (d, x) ∷ []) zs
share_entry a xs ys zs d x y s t is = record {
  settled = subst (AllByRecursion (λ z. SettledBy a z.1)) (sym is) (all_last (λ z. SettledBy a z.1) ys (d, y) s.settled t.settled);
  alone = λ q.
      let p = all_but_last (λ z. AloneBy a z.1) xs (d, x) q in
      subst (AllByRecursion (λ z. AloneBy a z.1)) (sym is) (all_last (λ z. AloneBy a z.1) ys (d, y) (s.alone p.0) (t.alone p.1));
}

-- ---- one big map

settled_by : (m n : BigMap) (t : Bool) → (t ≡ false → IsSettled n) → (t ≡ true → n ≡ m) → any_entry_carries (big_pairs m) ≡ t → any_entry_carries (big_pairs n) ≡ false → IsSettled n
settled_by m n false i same e h = i refl
settled_by m n true i same e h = let q : true ≡ false = sym e ∙ ap (λ b. any_entry_carries (big_pairs b)) (sym (same refl)) ∙ h in absurd cc

pub big_settled : (shared : Bool) (m n : BigMap) → shared ≡ true → (any_entry_carries (big_pairs m) ≡ false → IsSettled n) → (any_entry_carries (big_pairs m) ≡ true → n ≡ m) → SharesBig shared m n
big_settled true m n s i same = record { settled = settled_by m n (any_entry_carries (big_pairs m)) i same refl; alone = λ q. tt }
big_settled false m n s i same = absurd cc

pub big_as_it_is : (shared : Bool) (m : BigMap) → shared ≡ false → SharesBig shared m m
big_as_it_is true m s = absurd cc
big_as_it_is false m s = record { settled = tt; alone = λ q. q }
