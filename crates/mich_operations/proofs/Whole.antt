-- Values that literals spell name no base: they stand in every store for what they are.
use Rattle.std.proofs.Common.{◌≡◌, ℕ, Bool, true, List, [], ◌∷◌, None, Some, sym, ap, ◌∙◌, subst}
use Rattle.std.specs.declared.option.Option.{Option}
use Rattle.std.specs.List.{AllByRecursion}
use Rattle.rules_data.specs.types.Kind.{Kind}
use Rattle.rules_data.specs.types.Kind as k
use Rattle.rules_data.specs.big_maps.Changes.{changed}
use Rattle.mich_bigmap.specs.Bases.{Bases, entries_in, seen}
use Rattle.mich_bigmap.specs.Formed.{is_there}
use Rattle.mich_bigmap.specs.Layers.{BasedLayer, HasBases}
use Rattle.mich_bigmap.specs.Standing.{val_in, big_val_in, big_step_in}
use Rattle.mich_bigmap.proofs.ForCallers.{none_in, big_val_is, alone_is, each_both, each_more, agree, equals}
use Rattle.mich_data.specs.Whole.{Layer, IsSimple, IsOption, IsEither, IsPair, IsListOf, IsSet, IsMapTo, IsLambda, IsBig, IsPut, LiesWhole, IsWhole}
use Rattle.mich_term.specs.Layers.{FormedLayer, AreFormed}
use Rattle.mich_term.specs.ValueView.{val, big_pairs, big_step}
use Rattle.mich_term.specs.declared.datum.Datum.{Datum}
use Rattle.mich_term.specs.declared.value.Value.{Value, roll-Value, out-Value, roll-out-Value}
use Rattle.mich_term.specs.declared.value.Value.TheOpen.{Value-F, BigMap-F}
use Rattle.mich_term.specs.declared.value.BigMap.{BigMap, out-BigMap}
use Rattle.mich_term.proofs.ForCallers.Each as e
use Rattle.mich_term.proofs.ForCallers.{big_is}

-- a big map without a base
abbrev NoBase : BigMap-F Value BigMap → Type 0
NoBase b = b.base ≡ None

abbrev T : Value → Type 0
T = e.Each NoBase

-- ---- a value that a literal spells

all_of : (P : Value → Type 0) → ((x : Value) → P x → T x) → (xs : List Value) → AllByRecursion P xs → AllByRecursion T xs
all_of P f [] h = tt
all_of P f (x ∷ xs) h = (f x h.0, all_of P f xs h.1)

entries_of : (P : Value → Type 0) → ((x : Value) → P x → T x) → (es : List (Datum × Value)) → AllByRecursion (λ x. P x.1) es → AllByRecursion (λ x. T x.1) es
entries_of P f [] h = tt
entries_of P f (x ∷ es) h = (f x.1 h.0, entries_of P f es h.1)

simple_has : (l : Layer) → IsSimple l → T (roll-Value l)
simple_has Value-F.Unit h = e.up_unit NoBase
simple_has (Value-F.Bool b) h = e.up_bool NoBase b
simple_has (Value-F.Number n) h = e.up_number NoBase n
simple_has (Value-F.Text s) h = e.up_text NoBase s
simple_has (Value-F.Bytes s) h = e.up_bytes NoBase s
simple_has l h = absurd h

option_has : (l : Layer) (P : Value → Type 0) → ((x : Value) → P x → T x) → IsOption l P → T (roll-Value l)
option_has Value-F.None P f h = e.up_none NoBase
option_has (Value-F.Some x) P f h = e.up_some NoBase x (f x h)
option_has l P f h = absurd h

either_has : (l : Layer) (P Q : Value → Type 0) → ((x : Value) → P x → T x) → ((x : Value) → Q x → T x) → IsEither l P Q → T (roll-Value l)
either_has (Value-F.Left x) P Q f g h = e.up_left NoBase x (f x h)
either_has (Value-F.Right x) P Q f g h = e.up_right NoBase x (g x h)
either_has l P Q f g h = absurd h

pair_has : (l : Layer) (P Q : Value → Type 0) → ((x : Value) → P x → T x) → ((x : Value) → Q x → T x) → IsPair l P Q → T (roll-Value l)
pair_has (Value-F.Pair x y) P Q f g h = e.up_pair NoBase x y (f x h.0) (g y h.1)
pair_has l P Q f g h = absurd h

list_has : (l : Layer) (P : Value → Type 0) → ((x : Value) → P x → T x) → IsListOf l P → T (roll-Value l)
list_has (Value-F.List xs) P f h = e.up_list NoBase xs (all_of P f xs h)
list_has l P f h = absurd h

set_has : (l : Layer) → IsSet l → T (roll-Value l)
set_has (Value-F.Set ds) h = e.up_set NoBase ds
set_has l h = absurd h

map_has : (l : Layer) (P : Value → Type 0) → ((x : Value) → P x → T x) → IsMapTo l P → T (roll-Value l)
map_has (Value-F.Map es) P f h = e.up_map NoBase es (entries_of P f es h)
map_has l P f h = absurd h

lambda_has : (l : Layer) → IsLambda l → T (roll-Value l)
lambda_has (Value-F.Lambda n r) h = e.up_lambda NoBase n r
lambda_has l h = absurd h

put_each : (P : Value → Type 0) → ((x : Value) → P x → T x) → (cs : List (Datum × Option Value)) → AllByRecursion (λ x. IsPut P x.1) cs → AllByRecursion (e.EachChange NoBase) cs
put_each P f [] h = tt
put_each P f (c ∷ cs) h = (by c.1 h.0, put_each P f cs h.1)
  where
    by : (o : Option Value) → IsPut P o → e.EachPut NoBase o
    by None p = absurd p
    by (Some x) p = f x p

big_has : (l : Layer) (P : Value → Type 0) → ((x : Value) → P x → T x) → IsBig l (LiesWhole P) → T (roll-Value l)
big_has (Value-F.BigMap m) P f h = e.up_big NoBase m (e.of_changes NoBase m (put_each P f (out-BigMap m).overlay h.puts) h.alone)
big_has l P f h = absurd h

back : (x : Value) → T (roll-Value (out-Value x)) → T x
back x h = subst T (roll-out-Value x) h

whole_baseless : (a : Kind) (x : Value) → IsWhole a x → T x
whole_baseless (k.simple s) x h = back x (simple_has (out-Value x) h)
whole_baseless k.operation x h = absurd h
whole_baseless (k.option a) x h = back x (option_has (out-Value x) (IsWhole a) (whole_baseless a) h)
whole_baseless (k.or a b) x h = back x (either_has (out-Value x) (IsWhole a) (IsWhole b) (whole_baseless a) (whole_baseless b) h)
whole_baseless (k.pair a b) x h = back x (pair_has (out-Value x) (IsWhole a) (IsWhole b) (whole_baseless a) (whole_baseless b) h)
whole_baseless (k.list a) x h = back x (list_has (out-Value x) (IsWhole a) (whole_baseless a) h)
whole_baseless (k.set a) x h = back x (set_has (out-Value x) h)
whole_baseless (k.map a b) x h = back x (map_has (out-Value x) (IsWhole b) (whole_baseless b) h)
whole_baseless (k.big_map a b) x h = back x (big_has (out-Value x) (IsWhole b) (whole_baseless b) h)
whole_baseless (k.lambda a b) x h = back x (lambda_has (out-Value x) h)
whole_baseless (k.contract a) x h = back x (simple_has (out-Value x) h)
whole_baseless (k.ticket a) x h = absurd h

-- ---- in a store

record AloneLayer (b : BigMap-F Value BigMap) : Type 0 where
  formed : FormedLayer b
  alone : b.base ≡ None

alone_each : (a : Kind) (x : Value) → IsWhole a x → AreFormed x → e.Each AloneLayer x
alone_each a x h f = each_both FormedLayer NoBase AloneLayer (λ b p q. record { formed = p; alone = q }) x f (whole_baseless a x h)

big_alone : (bs : Bases) (b : BigMap) → AloneLayer (out-BigMap b) → big_val_in bs b ≡ big_pairs b
big_alone bs b a =
    big_val_is bs b a.formed
    ∙ ap (λ ps. changed (seen (out-BigMap b).overlay) ps) (ap (entries_in bs) a.alone ∙ none_in bs)
    ∙ alone_is (out-BigMap b).overlay (a.formed.puts a.alone) a.formed.keys
    ∙ sym (big_is b)

-- it stands for what it is
pub whole_stands : (bs : Bases) (a : Kind) (x : Value) → IsWhole a x → AreFormed x → val_in bs x ≡ val x
whole_stands bs a x h f = agree equals (big_step_in bs) big_step AloneLayer (λ z q. big_alone bs _ (e.here AloneLayer _ q)) x (alone_each a x h f)

there_none : (bs : Bases) (o : Option ℕ) → o ≡ None → is_there bs o ≡ true
there_none bs o q = ap (is_there bs) q

-- and its bases are there
pub whole_based : (bs : Bases) (a : Kind) (x : Value) → IsWhole a x → HasBases bs x
whole_based bs a x h = each_more NoBase (BasedLayer bs) (λ b q. there_none bs b.base q) x (whole_baseless a x h)
