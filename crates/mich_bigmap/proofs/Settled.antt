-- What settling makes of parts, and of values of such parts.
use Rattle.std.proofs.Common.{◌≡◌, ℕ, ℤ, List, [], ◌∷◌, ◌++◌, map, length, Some, None, true, false, Bool, refl, sym, ap, ◌∙◌, subst, arith}
use Rattle.std.specs.declared.option.Option.{Option}
use Rattle.std.specs.List.{AllByRecursion}
use Rattle.std.specs.Map.{keys_of}
use Rattle.rules_data.specs.values.Val.{Val, Pairs, some, left, right, both, list, table, big_table}
use Rattle.mich_base.proofs.undo_lemmas.ForCallers.{keeps_same, keeps_trans}
use Rattle.mich_term.specs.Keyed.{with, IsIncreasing}
use Rattle.mich_term.specs.View.{vals_of, pairs_of}
use Rattle.mich_base.specs.declared.node.Node.{Node}
use Rattle.mich_term.specs.declared.datum.Datum.{Datum}
use Rattle.mich_term.specs.declared.ticket.Ticket.{Ticket}
use Rattle.mich_term.specs.Holding.{any_entry_carries}
use Rattle.mich_term.specs.ValueView.{value_step, big_pairs, put_pairs}
use Rattle.mich_term.specs.declared.value.Value.{Value, roll-Value, fold-roll-Value, map-Value}
use Rattle.mich_term.specs.declared.value.Value.TheVariants.{rolls-Some, rolls-Left, rolls-Right, rolls-Pair, rolls-List, rolls-Map, rolls-BigMap}
use Rattle.mich_term.specs.declared.value.Value.TheOpen.{Value-F, BigMap-F}
use Rattle.mich_term.specs.declared.value.Value.TheVariants as v
use Rattle.mich_term.specs.declared.value.BigMap.{BigMap, out-BigMap}
use Rattle.mich_bigmap.specs.Bases.{Bases, big_in}
use Rattle.mich_bigmap.specs.Extended.{Extends}
use Rattle.mich_bigmap.specs.Formed.{IsFormed, HasBase}
use Rattle.mich_bigmap.specs.Settled.{IsSettled}
use Rattle.rules_data.specs.values.Tickets.{pair_tickets}
use Rattle.mich_term.specs.Layers.{AreFormed, NoBigMap, PutsNoBigMap, FormedLayer}
use Rattle.mich_bigmap.specs.Layers.{HasBases, BasedLayer}
use Rattle.mich_bigmap.specs.Standing.{val_in, entry_in, big_val_in, big_step_in}
use Rattle.mich_bigmap.specs.Stored.{Stored}
use Rattle.mich_bigmap.specs.Ticketless.{PutNoTickets}
use Rattle.mich_bigmap.specs.Settling.{Settles, SettlesAll, SettlesEntries, SettlesBig, Lays}
use Rattle.mich_term.proofs.ForCallers.{big_is, by_lawful, none_in_entries, with_last}
use Rattle.mich_term.proofs.ForCallers.Each as e
use Rattle.mich_bigmap.proofs.Extending.{extends_same}
use Rattle.mich_bigmap.proofs.Plain.{big_val_is}
use Rattle.mich_bigmap.proofs.Staying.{each_more, SameEntries, val_stays}

pub none_there : (cs : List (Datum × Option Value)) → length cs ≡ 0 → cs ≡ []
none_there [] h = refl
none_there (c ∷ cs) h = absurd (omega arith)

-- ---- more bases

pub extends_trans : (a b c : Bases) → Extends a b → Extends b c → Extends a c
extends_trans a b c p q = record { there = λ o h. q.there o (p.there o h); same = λ o h. q.same o (p.there o h) ∙ p.same o h }

pub based_later : (a b : Bases) (x : Value) → Extends a b → HasBases a x → HasBases b x
based_later a b x p h = each_more (BasedLayer a) (BasedLayer b) (λ l t. p.there l.base t) x h

pub val_later : (a b : Bases) (x : Value) → Extends a b → HasBases a x → val_in b x ≡ val_in a x
val_later a b x p h = val_stays a b x (each_more (BasedLayer a) (SameEntries a b) (λ l t. p.same l.base t) x h)

pub lays_same : (s : Stored) → Lays s s
lays_same s = record { others = extends_same s.bases.present; keeps = keeps_same s.bases; noted = refl; ticketless = λ h. h }

pub lays_trans : (r s t : Stored) → Lays r s → Lays s t → Lays r t
lays_trans r s t p q = record {
  others = extends_trans r.bases.present s.bases.present t.bases.present p.others q.others;
  keeps = keeps_trans r.bases s.bases t.bases p.keeps q.keeps;
  noted = q.noted ∙ p.noted;
  ticketless = λ h. q.ticketless (p.ticketless h);
}

pub settles_later : (a b c : Bases) (x y : Value) → Settles a b x y → Extends b c → Settles a c x y
settles_later a b c x y s p = record { same = val_later b c y p s.based ∙ s.same; formed = s.formed; based = based_later b c y p s.based }

pub settles_before : (a b c : Bases) (x y : Value) → HasBases a x → Extends a b → Settles b c x y → Settles a c x y
settles_before a b c x y h p s = record { same = s.same ∙ val_later a b x p h; formed = s.formed; based = s.based }

pub settles_from : (a b : Bases) (x y z : Value) → x ≡ y → Settles a b y z → Settles a b x z
settles_from a b x y z h s = subst (λ t. Settles a b t z) (sym h) s

pub settles_same : (a : Bases) (x y : Value) → x ≡ y → Settles a a y y → Settles a a x x
settles_same a x y h s = subst (λ t. Settles a a t t) (sym h) s

-- ---- values of parts

module _ (bs : Bases) where
  rolled : (l : Value-F Value BigMap) → val_in bs (roll-Value l) ≡ value_step (map-Value Value BigMap Val Pairs (val_in bs) (big_val_in bs) l)
  rolled l = fold-roll-Value Val Pairs value_step (big_step_in bs) l

  in_some : (x : Value) → val_in bs (v.Some x) ≡ some (val_in bs x)
  in_some x = ap (val_in bs) (sym (rolls-Some x)) ∙ rolled (Value-F.Some x)

  in_left : (x : Value) → val_in bs (v.Left x) ≡ left (val_in bs x)
  in_left x = ap (val_in bs) (sym (rolls-Left x)) ∙ rolled (Value-F.Left x)

  in_right : (x : Value) → val_in bs (v.Right x) ≡ right (val_in bs x)
  in_right x = ap (val_in bs) (sym (rolls-Right x)) ∙ rolled (Value-F.Right x)

  in_pair : (x y : Value) → val_in bs (v.Pair x y) ≡ both (val_in bs x) (val_in bs y)
  in_pair x y = ap (val_in bs) (sym (rolls-Pair x y)) ∙ rolled (Value-F.Pair x y)

  in_list : (xs : List Value) → val_in bs (v.List xs) ≡ list (vals_of (map (val_in bs) xs))
  in_list xs = ap (val_in bs) (sym (rolls-List xs)) ∙ rolled (Value-F.List xs)

  pub in_map : (es : List (Datum × Value)) → val_in bs (v.Map es) ≡ table (pairs_of (map (entry_in bs) es))
  in_map es = ap (val_in bs) (sym (rolls-Map es)) ∙ rolled (Value-F.Map es)

  in_big : (b : BigMap) → val_in bs (v.BigMap b) ≡ big_table (big_val_in bs b)
  in_big b = ap (val_in bs) (sym (rolls-BigMap b)) ∙ rolled (Value-F.BigMap b)

pub settles_some : (a b : Bases) (x y : Value) → Settles a b x y → Settles a b (v.Some x) (v.Some y)
settles_some a b x y s = record { same = in_some b y ∙ ap some s.same ∙ sym (in_some a x); formed = e.of_some FormedLayer y s.formed; based = e.of_some (BasedLayer b) y s.based }

pub settles_left : (a b : Bases) (x y : Value) → Settles a b x y → Settles a b (v.Left x) (v.Left y)
settles_left a b x y s = record { same = in_left b y ∙ ap left s.same ∙ sym (in_left a x); formed = e.of_left FormedLayer y s.formed; based = e.of_left (BasedLayer b) y s.based }

pub settles_right : (a b : Bases) (x y : Value) → Settles a b x y → Settles a b (v.Right x) (v.Right y)
settles_right a b x y s = record { same = in_right b y ∙ ap right s.same ∙ sym (in_right a x); formed = e.of_right FormedLayer y s.formed; based = e.of_right (BasedLayer b) y s.based }

pub settles_pair : (a b c : Bases) (x y x' y' : Value) → HasBases a y → Extends a b → Extends b c → Settles a b x x' → Settles b c y y' → Settles a c (v.Pair x y) (v.Pair x' y')
settles_pair a b c x y x' y' h p q s t =
    let first = settles_later a b c x x' s q in
    let second = settles_before a b c y y' h p t in
    record {
      same = in_pair c x' y' ∙ (λ i. both (first.same i) (second.same i)) ∙ sym (in_pair a x y);
      formed = e.of_pair FormedLayer x' y' first.formed second.formed;
      based = e.of_pair (BasedLayer c) x' y' first.based second.based;
    }

pub settles_list : (a b : Bases) (xs ys : List Value) → SettlesAll a b xs ys → Settles a b (v.List xs) (v.List ys)
settles_list a b xs ys s = record { same = in_list b ys ∙ ap (λ vs. list (vals_of vs)) s.same ∙ sym (in_list a xs); formed = e.of_list FormedLayer ys s.formed; based = e.of_list (BasedLayer b) ys s.based }

pub settles_map : (a b : Bases) (xs ys : List (Datum × Value)) → SettlesEntries a b xs ys → Settles a b (v.Map xs) (v.Map ys)
settles_map a b xs ys s = record { same = in_map b ys ∙ ap (λ es. table (pairs_of es)) s.same ∙ sym (in_map a xs); formed = e.of_map FormedLayer ys s.formed; based = e.of_map (BasedLayer b) ys s.based }

pub settles_big : (a b : Bases) (x y : BigMap) → SettlesBig a b x y → Settles a b (v.BigMap x) (v.BigMap y)
settles_big a b x y s = record { same = in_big b y ∙ ap big_table s.same ∙ sym (in_big a x); formed = e.of_big FormedLayer y s.formed; based = e.of_big (BasedLayer b) y s.based }

-- ---- values without parts

pub settles_unit : (c : Bases) → Settles c c v.Unit v.Unit
settles_unit c = record { same = refl; formed = e.of_unit FormedLayer; based = e.of_unit (BasedLayer c) }

pub settles_bool : (c : Bases) (b : Bool) → Settles c c (v.Bool b) (v.Bool b)
settles_bool c b = record { same = refl; formed = e.of_bool FormedLayer b; based = e.of_bool (BasedLayer c) b }

pub settles_number : (c : Bases) (n : ℤ) → Settles c c (v.Number n) (v.Number n)
settles_number c n = record { same = refl; formed = e.of_number FormedLayer n; based = e.of_number (BasedLayer c) n }

pub settles_text : (c : Bases) (s : List ℕ) → Settles c c (v.Text s) (v.Text s)
settles_text c s = record { same = refl; formed = e.of_text FormedLayer s; based = e.of_text (BasedLayer c) s }

pub settles_bytes : (c : Bases) (s : List ℕ) → Settles c c (v.Bytes s) (v.Bytes s)
settles_bytes c s = record { same = refl; formed = e.of_bytes FormedLayer s; based = e.of_bytes (BasedLayer c) s }

pub settles_none : (c : Bases) → Settles c c v.None v.None
settles_none c = record { same = refl; formed = e.of_none FormedLayer; based = e.of_none (BasedLayer c) }

pub settles_set : (c : Bases) (ds : List Datum) → Settles c c (v.Set ds) (v.Set ds)
settles_set c ds = record { same = refl; formed = e.of_set FormedLayer ds; based = e.of_set (BasedLayer c) ds }

pub settles_lambda : (c : Bases) (n : Node) (r : Bool) → Settles c c (v.Lambda n r) (v.Lambda n r)
settles_lambda c n r = record { same = refl; formed = e.of_lambda FormedLayer n r; based = e.of_lambda (BasedLayer c) n r }

pub settles_operation : (c : Bases) (n : ℕ) → Settles c c (v.Operation n) (v.Operation n)
settles_operation c n = record { same = refl; formed = e.of_operation FormedLayer n; based = e.of_operation (BasedLayer c) n }

pub settles_ticket : (c : Bases) (t : Ticket) → Settles c c (v.Ticket t) (v.Ticket t)
settles_ticket c t = record { same = refl; formed = e.of_ticket FormedLayer t; based = e.of_ticket (BasedLayer c) t }

-- ---- lists

map_later : (a b : Bases) (xs : List Value) → Extends a b → AllByRecursion (HasBases a) xs → map (val_in b) xs ≡ map (val_in a) xs
map_later a b [] p h = refl
map_later a b (x ∷ xs) p h = (λ i. val_later a b x p h.0 i ∷ map_later a b xs p h.1 i)

all_later : (a b : Bases) (xs : List Value) → Extends a b → AllByRecursion (HasBases a) xs → AllByRecursion (HasBases b) xs
all_later a b [] p h = tt
all_later a b (x ∷ xs) p h = (based_later a b x p h.0, all_later a b xs p h.1)

all_last : {X : Type 0} (P : X → Type 0) (xs : List X) (x : X) → AllByRecursion P xs → P x → AllByRecursion P (xs ++ x ∷ [])
all_last P [] x h p = (p, tt)
all_last P (y ∷ xs) x h p = (h.0, all_last P xs x h.1 p)

map_last : {X Y : Type 0} (f : X → Y) (xs : List X) (x : X) → map f (xs ++ x ∷ []) ≡ map f xs ++ f x ∷ []
map_last f [] x = refl
map_last f (y ∷ xs) x = ap (λ t. f y ∷ t) (map_last f xs x)

pub settles_empty : (a : Bases) → SettlesAll a a [] []
settles_empty a = record { same = refl; formed = tt; based = tt }

-- one more
pub settles_more : (a b c : Bases) (xs ys : List Value) (x y : Value) → SettlesAll a b xs ys → HasBases a x → Extends a b → Extends b c → Settles b c x y →
    SettlesAll a c (xs ++ x ∷ []) (ys ++ y ∷ [])
settles_more a b c xs ys x y s h p q t =
    let one = settles_before a b c x y h p t in
    record {
      same = map_last (val_in c) ys y ∙ (λ i. (map_later b c ys q s.based ∙ s.same) i ++ one.same i ∷ []) ∙ sym (map_last (val_in a) xs x);
      formed = all_last AreFormed ys y s.formed one.formed;
      based = all_last (HasBases c) ys y (all_later b c ys q s.based) one.based;
    }

-- ---- entries

entries_later : (a b : Bases) (es : List (Datum × Value)) → Extends a b → AllByRecursion (λ x. HasBases a x.1) es → map (entry_in b) es ≡ map (entry_in a) es
entries_later a b [] p h = refl
entries_later a b (x ∷ xs) p h = (λ i. (x.0, val_later a b x.1 p h.0 i) ∷ entries_later a b xs p h.1 i)

pub entries_based : (a b : Bases) (es : List (Datum × Value)) → Extends a b → AllByRecursion (λ x. HasBases a x.1) es → AllByRecursion (λ x. HasBases b x.1) es
entries_based a b [] p h = tt
entries_based a b (x ∷ xs) p h = (based_later a b x.1 p h.0, entries_based a b xs p h.1)

pub settles_nothing : (a : Bases) → SettlesEntries a a [] []
settles_nothing a = record { same = refl; formed = tt; based = tt }

entry_keys : (a : Bases) (es : List (Datum × Value)) → keys_of (map (entry_in a) es) ≡ keys_of es
entry_keys a [] = refl
entry_keys a (x ∷ xs) = ap (λ ks. x.0 ∷ ks) (entry_keys a xs)

keys_append : {X : Type 0} (us vs : List (Datum × X)) → keys_of (us ++ vs) ≡ keys_of us ++ keys_of vs
keys_append [] vs = refl
keys_append (u ∷ us) vs = ap (λ ks. u.0 ∷ ks) (keys_append us vs)

-- one more is put last
pub entries_last : (a b : Bases) (xs ys zs rest all : List (Datum × Value)) (k : Datum) (x y : Value) → SettlesEntries a b xs ys →
    IsIncreasing (keys_of all) → xs ++ (k, x) ∷ rest ≡ all → zs ≡ with k y ys → zs ≡ ys ++ (k, y) ∷ []
entries_last a b xs ys zs rest all k x y s increasing place put =
    let keys : keys_of ys ≡ keys_of xs = sym (entry_keys b ys) ∙ ap keys_of s.same ∙ entry_keys a xs in
    let sorted : IsIncreasing (keys_of (ys ++ (k, y) ∷ rest)) = subst IsIncreasing (ap keys_of (sym place) ∙ keys_append xs ((k, x) ∷ rest) ∙ ap (λ ks. ks ++ k ∷ keys_of rest) (sym keys) ∙ sym (keys_append ys ((k, y) ∷ rest))) increasing in
    put ∙ with_last by_lawful ys rest k y sorted

-- one more, at its key
pub settles_entry : (a b c : Bases) (xs ys zs : List (Datum × Value)) (k : Datum) (x y : Value) → SettlesEntries a b xs ys → HasBases a x →
    Extends a b → Extends b c → Settles b c x y → zs ≡ ys ++ (k, y) ∷ [] → SettlesEntries a c (xs ++ (k, x) ∷ []) zs
settles_entry a b c xs ys zs k x y s h p q t is =
    let one = settles_before a b c x y h p t in
    let olds = entries_based b c ys q s.based in
    record {
      same = ap (map (entry_in c)) is ∙ map_last (entry_in c) ys (k, y) ∙ (λ i. (entries_later b c ys q s.based ∙ s.same) i ++ (k, one.same i) ∷ []) ∙ sym (map_last (entry_in a) xs (k, x));
      formed = subst (AllByRecursion (λ z. AreFormed z.1)) (sym is) (all_last (λ z. AreFormed z.1) ys (k, y) s.formed one.formed);
      based = subst (AllByRecursion (λ z. HasBases c z.1)) (sym is) (all_last (λ z. HasBases c z.1) ys (k, y) olds one.based);
    }

-- ---- what parts need

pub formed_big : (b : BigMap) → AreFormed (v.BigMap b) → e.EachBig FormedLayer b
formed_big b h = e.in_big FormedLayer b h

-- ---- big maps

plain_put : (Q : BigMap-F Value BigMap → Type 0) (o : Option Value) → PutsNoBigMap o → e.EachPut Q o
plain_put Q None h = tt
plain_put Q (Some x) h = each_more NoBigMap Q (λ b n. absurd n) x h

plain_changes : (Q : BigMap-F Value BigMap → Type 0) (cs : List (Datum × Option Value)) → AllByRecursion (λ c. PutsNoBigMap c.1) cs → AllByRecursion (e.EachChange Q) cs
plain_changes Q [] h = tt
plain_changes Q (c ∷ cs) h = (plain_put Q c.1 h.0, plain_changes Q cs h.1)

-- a big map of which something is so is one of which it is so with all that it puts
each_plain : (Q : BigMap-F Value BigMap → Type 0) (m : BigMap) → FormedLayer (out-BigMap m) → Q (out-BigMap m) → e.EachBig Q m
each_plain Q m f q = e.of_changes Q m (plain_changes Q (out-BigMap m).overlay f.plain) q

formed_empty : (m : BigMap) → IsFormed m → (out-BigMap m).overlay ≡ [] → FormedLayer (out-BigMap m)
formed_empty m f h = record {
  keys = f.keys;
  puts = f.puts;
  plain = subst (AllByRecursion (λ c. PutsNoBigMap c.1)) (sym h) tt;
  ticketless = λ s. ap (λ cs. pair_tickets (put_pairs cs)) h;
}

-- it puts a ticket and stays, or it is settled
formed_by : (m n : BigMap) (t : Bool) → FormedLayer (out-BigMap m) → IsFormed n → (t ≡ false → IsSettled n) → (t ≡ true → n ≡ m) → FormedLayer (out-BigMap n)
formed_by m n true f g i same = subst (λ x. FormedLayer (out-BigMap x)) (sym (same refl)) f
formed_by m n false f g i same = formed_empty n g (i refl).1

pub settles_of : (a b : Bases) (m n : BigMap) → e.EachBig FormedLayer m → e.EachBig (BasedLayer a) m → IsFormed n →
    (any_entry_carries (big_pairs m) ≡ false → IsSettled n) → (any_entry_carries (big_pairs m) ≡ true → n ≡ m) → (HasBase a m → HasBase b n) → big_in b n ≡ big_in a m → SettlesBig a b m n
settles_of a b m n f d g i stays based same =
    let formed = e.here FormedLayer m f in
    let layer = formed_by m n (any_entry_carries (big_pairs m)) formed g i stays in
    record {
      same = big_val_is b n layer ∙ same ∙ sym (big_val_is a m formed);
      formed = each_plain FormedLayer n layer layer;
      based = each_plain (BasedLayer b) n layer (based (e.here (BasedLayer a) m d));
    }

-- one that isn't touched
pub settles_as_it_is : (bs : Bases) (m : BigMap) → e.EachBig FormedLayer m → e.EachBig (BasedLayer bs) m → SettlesBig bs bs m m
settles_as_it_is bs m f d = record { same = refl; formed = f; based = d }

pub formed_is : (m : BigMap) → e.EachBig FormedLayer m → IsFormed m
formed_is m h = let f = e.here FormedLayer m h in record { keys = f.keys; puts = f.puts }

-- what puts no ticket
pub bare_is : (m : BigMap) → any_entry_carries (big_pairs m) ≡ false → PutNoTickets (out-BigMap m).overlay
bare_is m h = sym (ap pair_tickets (big_is m)) ∙ none_in_entries (big_pairs m) h
