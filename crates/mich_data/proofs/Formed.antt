-- In a value that a literal of a well formed type spells each big map has its form, and there is no ticket.
use Rattle.std.proofs.Common.{◌≡◌, ℕ, ℤ, Bool, true, List, [], ◌∷◌, ◌++◌, Option, Some, None, refl, ap, ◌∙◌, subst}
use Rattle.std.specs.Prelude.{is_some}
use Rattle.std.specs.List.{AllByRecursion}
use Rattle.std.proofs.lemmas.Bool.{and_parts}
use Rattle.rules_data.specs.types.Kind.{Kind}
use Rattle.rules_data.specs.types.Kind as k
use Rattle.rules_data.specs.types.Attributes.{big_value}
use Rattle.rules_data.specs.values.Val.{Val, Pairs}
use Rattle.rules_data.specs.values.Tickets.{Held, tickets, all_tickets, pair_tickets}
use Rattle.laws_data.specs.types.Laws.{IsWellFormed}
use Rattle.mich_base.specs.declared.node.Node.{Node}
use Rattle.mich_term.specs.Layers.{NoBigMap, PutsNoBigMap, FormedLayer, AreFormed}
use Rattle.mich_term.specs.ValueView.{val, vals, pairs, put_pairs, value_step, big_step}
use Rattle.mich_term.specs.declared.datum.Datum.{Datum}
use Rattle.mich_term.specs.declared.value.Value.{Value, roll-Value, out-Value, roll-out-Value, fold-roll-Value}
use Rattle.mich_term.specs.declared.value.Value.TheOpen.{Value-F, BigMap-F}
use Rattle.mich_term.specs.declared.value.BigMap.{BigMap, out-BigMap}
use Rattle.mich_term.proofs.ForCallers.Each as e
use Rattle.mich_term.proofs.ForCallers.{big_is}
use Rattle.mich_data.specs.Whole.{Layer, IsSimple, IsOption, IsEither, IsPair, IsListOf, IsSet, IsMapTo, IsLambda, IsBig, IsPut, LiesWhole, IsWhole}

-- what is so of parts is so of what they make
record IsClosed (T : Value → Type 0) : Type 0 where
  unit : T (roll-Value Value-F.Unit)
  bool : (b : Bool) → T (roll-Value (Value-F.Bool b))
  number : (n : ℤ) → T (roll-Value (Value-F.Number n))
  text : (s : List ℕ) → T (roll-Value (Value-F.Text s))
  bytes : (s : List ℕ) → T (roll-Value (Value-F.Bytes s))
  none : T (roll-Value Value-F.None)
  some : (x : Value) → T x → T (roll-Value (Value-F.Some x))
  left : (x : Value) → T x → T (roll-Value (Value-F.Left x))
  right : (x : Value) → T x → T (roll-Value (Value-F.Right x))
  both : (x y : Value) → T x → T y → T (roll-Value (Value-F.Pair x y))
  list : (xs : List Value) → AllByRecursion T xs → T (roll-Value (Value-F.List xs))
  set : (ds : List Datum) → T (roll-Value (Value-F.Set ds))
  table : (es : List (Datum × Value)) → AllByRecursion (λ x. T x.1) es → T (roll-Value (Value-F.Map es))
  lambda : (n : Node) (r : Bool) → T (roll-Value (Value-F.Lambda n r))

-- what is asked of a type is so of its parts
record IsInherited (W : Kind → Type 0) : Type 0 where
  option : (a : Kind) → W (k.option a) → W a
  left : (a b : Kind) → W (k.or a b) → W a
  right : (a b : Kind) → W (k.or a b) → W b
  first : (a b : Kind) → W (k.pair a b) → W a
  second : (a b : Kind) → W (k.pair a b) → W b
  list : (a : Kind) → W (k.list a) → W a
  value : (a b : Kind) → W (k.map a b) → W b
  big_value : (a b : Kind) → W (k.big_map a b) → W b

module _ (T : Value → Type 0) (c : IsClosed T) where
  all_of : (P : Value → Type 0) → ((x : Value) → P x → T x) → (xs : List Value) → AllByRecursion P xs → AllByRecursion T xs
  all_of P f [] h = tt
  all_of P f (x ∷ xs) h = (f x h.0, all_of P f xs h.1)

  entries_of : (P : Value → Type 0) → ((x : Value) → P x → T x) → (es : List (Datum × Value)) → AllByRecursion (λ x. P x.1) es → AllByRecursion (λ x. T x.1) es
  entries_of P f [] h = tt
  entries_of P f (x ∷ es) h = (f x.1 h.0, entries_of P f es h.1)

  simple_has : (l : Layer) → IsSimple l → T (roll-Value l)
  simple_has Value-F.Unit h = c.unit
  simple_has (Value-F.Bool b) h = c.bool b
  simple_has (Value-F.Number n) h = c.number n
  simple_has (Value-F.Text s) h = c.text s
  simple_has (Value-F.Bytes s) h = c.bytes s
  simple_has l h = absurd h

  option_has : (l : Layer) (P : Value → Type 0) → ((x : Value) → P x → T x) → IsOption l P → T (roll-Value l)
  option_has Value-F.None P f h = c.none
  option_has (Value-F.Some x) P f h = c.some x (f x h)
  option_has l P f h = absurd h

  either_has : (l : Layer) (P Q : Value → Type 0) → ((x : Value) → P x → T x) → ((x : Value) → Q x → T x) → IsEither l P Q → T (roll-Value l)
  either_has (Value-F.Left x) P Q f g h = c.left x (f x h)
  either_has (Value-F.Right x) P Q f g h = c.right x (g x h)
  either_has l P Q f g h = absurd h

  pair_has : (l : Layer) (P Q : Value → Type 0) → ((x : Value) → P x → T x) → ((x : Value) → Q x → T x) → IsPair l P Q → T (roll-Value l)
  pair_has (Value-F.Pair x y) P Q f g h = c.both x y (f x h.0) (g y h.1)
  pair_has l P Q f g h = absurd h

  list_has : (l : Layer) (P : Value → Type 0) → ((x : Value) → P x → T x) → IsListOf l P → T (roll-Value l)
  list_has (Value-F.List xs) P f h = c.list xs (all_of P f xs h)
  list_has l P f h = absurd h

  set_has : (l : Layer) → IsSet l → T (roll-Value l)
  set_has (Value-F.Set ds) h = c.set ds
  set_has l h = absurd h

  map_has : (l : Layer) (P : Value → Type 0) → ((x : Value) → P x → T x) → IsMapTo l P → T (roll-Value l)
  map_has (Value-F.Map es) P f h = c.table es (entries_of P f es h)
  map_has l P f h = absurd h

  lambda_has : (l : Layer) → IsLambda l → T (roll-Value l)
  lambda_has (Value-F.Lambda n r) h = c.lambda n r
  lambda_has l h = absurd h

  big_has : (l : Layer) (P : BigMap → Type 0) → ((m : BigMap) → P m → T (roll-Value (Value-F.BigMap m))) → IsBig l P → T (roll-Value l)
  big_has (Value-F.BigMap m) P f h = f m h
  big_has l P f h = absurd h

  back : (x : Value) → T (roll-Value (out-Value x)) → T x
  back x h = subst T (roll-out-Value x) h

  module _ (W : Kind → Type 0) (i : IsInherited W)
      (big : (a b : Kind) → W (k.big_map a b) → ((x : Value) → IsWhole b x → T x) → (m : BigMap) → LiesWhole (IsWhole b) m → T (roll-Value (Value-F.BigMap m))) where
    whole_has : (a : Kind) (x : Value) → W a → IsWhole a x → T x
    whole_has (k.simple s) x w h = back x (simple_has (out-Value x) h)
    whole_has k.operation x w h = absurd h
    whole_has (k.option a) x w h = back x (option_has (out-Value x) (IsWhole a) (λ y p. whole_has a y (i.option a w) p) h)
    whole_has (k.or a b) x w h = back x (either_has (out-Value x) (IsWhole a) (IsWhole b) (λ y p. whole_has a y (i.left a b w) p) (λ y p. whole_has b y (i.right a b w) p) h)
    whole_has (k.pair a b) x w h = back x (pair_has (out-Value x) (IsWhole a) (IsWhole b) (λ y p. whole_has a y (i.first a b w) p) (λ y p. whole_has b y (i.second a b w) p) h)
    whole_has (k.list a) x w h = back x (list_has (out-Value x) (IsWhole a) (λ y p. whole_has a y (i.list a w) p) h)
    whole_has (k.set a) x w h = back x (set_has (out-Value x) h)
    whole_has (k.map a b) x w h = back x (map_has (out-Value x) (IsWhole b) (λ y p. whole_has b y (i.value a b w) p) h)
    whole_has (k.big_map a b) x w h =
        back x (big_has (out-Value x) (LiesWhole (IsWhole b)) (λ m p. big a b w (λ y q. whole_has b y (i.big_value a b w) q) m p) h)
    whole_has (k.lambda a b) x w h = back x (lambda_has (out-Value x) h)
    whole_has (k.contract a) x w h = back x (simple_has (out-Value x) h)
    whole_has (k.ticket a) x w h = absurd h

-- ---- what is so of each big map

each_closed : (Q : BigMap-F Value BigMap → Type 0) → IsClosed (e.Each Q)
each_closed Q = record {
  unit = e.up_unit Q;
  bool = e.up_bool Q;
  number = e.up_number Q;
  text = e.up_text Q;
  bytes = e.up_bytes Q;
  none = e.up_none Q;
  some = e.up_some Q;
  left = e.up_left Q;
  right = e.up_right Q;
  both = e.up_pair Q;
  list = e.up_list Q;
  set = e.up_set Q;
  table = e.up_map Q;
  lambda = e.up_lambda Q;
}

-- ---- no big map is in a value of a big map

abbrev IsBigValue : Kind → Type 0
IsBigValue a = big_value a ≡ true

big_values : IsInherited IsBigValue
big_values = record {
  option = λ a h. h;
  left = λ a b h. (and_parts (big_value a) (big_value b) h).0;
  right = λ a b h. (and_parts (big_value a) (big_value b) h).1;
  first = λ a b h. (and_parts (big_value a) (big_value b) h).0;
  second = λ a b h. (and_parts (big_value a) (big_value b) h).1;
  list = λ a h. h;
  value = λ a b h. (and_parts (big_value a) (big_value b) h).1;
  big_value = λ a b h. absurd cc;
}

plain : (a : Kind) (x : Value) → big_value a ≡ true → IsWhole a x → e.Each NoBigMap x
plain = whole_has (e.Each NoBigMap) (each_closed NoBigMap) IsBigValue big_values (λ a b w f m h. absurd cc)

-- ---- no ticket

abbrev HasNoTicket : Value → Type 0
HasNoTicket x = tickets (val x) ≡ []

nothing : (xs ys : List Held) → xs ≡ [] → ys ≡ [] → xs ++ ys ≡ []
nothing xs ys h i = λ j. h j ++ i j

no_tickets : (xs : List Value) → AllByRecursion HasNoTicket xs → all_tickets (vals xs) ≡ []
no_tickets [] h = refl
no_tickets (x ∷ xs) h = nothing (tickets (val x)) (all_tickets (vals xs)) h.0 (no_tickets xs h.1)

no_entry_tickets : (es : List (Datum × Value)) → AllByRecursion (λ x. HasNoTicket x.1) es → pair_tickets (pairs es) ≡ []
no_entry_tickets [] h = refl
no_entry_tickets (x ∷ es) h = nothing (tickets (val x.1)) (pair_tickets (pairs es)) h.0 (no_entry_tickets es h.1)

ticketless_closed : IsClosed HasNoTicket
ticketless_closed = record {
  unit = ap tickets (fold-roll-Value Val Pairs value_step big_step Value-F.Unit);
  bool = λ b. ap tickets (fold-roll-Value Val Pairs value_step big_step (Value-F.Bool b));
  number = λ n. ap tickets (fold-roll-Value Val Pairs value_step big_step (Value-F.Number n));
  text = λ s. ap tickets (fold-roll-Value Val Pairs value_step big_step (Value-F.Text s));
  bytes = λ s. ap tickets (fold-roll-Value Val Pairs value_step big_step (Value-F.Bytes s));
  none = ap tickets (fold-roll-Value Val Pairs value_step big_step Value-F.None);
  some = λ x h. ap tickets (fold-roll-Value Val Pairs value_step big_step (Value-F.Some x)) ∙ h;
  left = λ x h. ap tickets (fold-roll-Value Val Pairs value_step big_step (Value-F.Left x)) ∙ h;
  right = λ x h. ap tickets (fold-roll-Value Val Pairs value_step big_step (Value-F.Right x)) ∙ h;
  both = λ x y h i. ap tickets (fold-roll-Value Val Pairs value_step big_step (Value-F.Pair x y)) ∙ nothing (tickets (val x)) (tickets (val y)) h i;
  list = λ xs h. ap tickets (fold-roll-Value Val Pairs value_step big_step (Value-F.List xs)) ∙ no_tickets xs h;
  set = λ ds. ap tickets (fold-roll-Value Val Pairs value_step big_step (Value-F.Set ds));
  table = λ es h. ap tickets (fold-roll-Value Val Pairs value_step big_step (Value-F.Map es)) ∙ no_entry_tickets es h;
  lambda = λ n r. ap tickets (fold-roll-Value Val Pairs value_step big_step (Value-F.Lambda n r));
}

any_type : IsInherited (λ a. Unit {0})
any_type = record {
  option = λ a h. tt;
  left = λ a b h. tt;
  right = λ a b h. tt;
  first = λ a b h. tt;
  second = λ a b h. tt;
  list = λ a h. tt;
  value = λ a b h. tt;
  big_value = λ a b h. tt;
}

no_put_tickets : (P : Value → Type 0) → ((x : Value) → P x → HasNoTicket x) → (cs : List (Datum × Option Value)) → AllByRecursion (λ x. IsPut P x.1) cs → pair_tickets (put_pairs cs) ≡ []
no_put_tickets P f [] h = refl
no_put_tickets P f (c ∷ cs) h = by c.1 h.0 (no_put_tickets P f cs h.1)
  where
    by : (o : Option Value) → IsPut P o → pair_tickets (put_pairs cs) ≡ [] → pair_tickets (put_pairs ((c.0, o) ∷ cs)) ≡ []
    by None p later = absurd p
    by (Some x) p later = nothing (tickets (val x)) (pair_tickets (put_pairs cs)) (f x p) later

-- a value that a literal spells holds no ticket
pub ticketless : (a : Kind) (x : Value) → IsWhole a x → tickets (val x) ≡ []
ticketless a x h = whole_has HasNoTicket ticketless_closed (λ b. Unit {0}) any_type
    (λ b c w f m p. ap tickets (fold-roll-Value Val Pairs value_step big_step (Value-F.BigMap m)) ∙ ap pair_tickets (big_is m) ∙ no_put_tickets (IsWhole c) f (out-BigMap m).overlay p.puts) a x tt h

-- ---- big maps have their form

well_formed : IsInherited IsWellFormed
well_formed = record {
  option = λ a h. h;
  left = λ a b h. h.0;
  right = λ a b h. h.1;
  first = λ a b h. h.0;
  second = λ a b h. h.1;
  list = λ a h. h;
  value = λ a b h. h.2;
  big_value = λ a b h. h.3;
}

module _ (P : Value → Type 0) where
  all_put : (cs : List (Datum × Option Value)) → AllByRecursion (λ x. IsPut P x.1) cs → AllByRecursion (λ x. is_some x.1 ≡ true) cs
  all_put [] h = tt
  all_put (c ∷ cs) h = (by c.1 h.0, all_put cs h.1)
    where
      by : (o : Option Value) → IsPut P o → is_some o ≡ true
      by None p = absurd p
      by (Some x) p = refl

  put_plain : ((x : Value) → P x → e.Each NoBigMap x) → (cs : List (Datum × Option Value)) → AllByRecursion (λ x. IsPut P x.1) cs → AllByRecursion (λ x. PutsNoBigMap x.1) cs
  put_plain f [] h = tt
  put_plain f (c ∷ cs) h = (by c.1 h.0, put_plain f cs h.1)
    where
      by : (o : Option Value) → IsPut P o → PutsNoBigMap o
      by None p = absurd p
      by (Some x) p = f x p

  put_each : ((x : Value) → P x → AreFormed x) → (cs : List (Datum × Option Value)) → AllByRecursion (λ x. IsPut P x.1) cs → AllByRecursion (e.EachChange FormedLayer) cs
  put_each f [] h = tt
  put_each f (c ∷ cs) h = (by c.1 h.0, put_each f cs h.1)
    where
      by : (o : Option Value) → IsPut P o → e.EachPut FormedLayer o
      by None p = absurd p
      by (Some x) p = f x p

formed_big : (a b : Kind) → IsWellFormed (k.big_map a b) → ((x : Value) → IsWhole b x → AreFormed x) → (m : BigMap) → LiesWhole (IsWhole b) m → AreFormed (roll-Value (Value-F.BigMap m))
formed_big a b w f m h =
    e.up_big FormedLayer m (e.of_changes FormedLayer m (put_each (IsWhole b) f (out-BigMap m).overlay h.puts) (record {
      keys = h.keys;
      puts = λ s. all_put (IsWhole b) (out-BigMap m).overlay h.puts;
      plain = put_plain (IsWhole b) (λ x p. plain b x w.1 p) (out-BigMap m).overlay h.puts;
      ticketless = λ s. no_put_tickets (IsWhole b) (ticketless b) (out-BigMap m).overlay h.puts;
    }))

-- the big maps of a value that a literal of a well formed type spells have their form
pub formed : (a : Kind) (x : Value) → IsWellFormed a → IsWhole a x → AreFormed x
formed = whole_has AreFormed (each_closed FormedLayer) IsWellFormed well_formed formed_big
