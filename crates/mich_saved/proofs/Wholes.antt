-- Values that are made of whole parts are whole.
use Rattle.std.proofs.Common.{◌≡◌, ℕ, ℤ, Bool, true, List, [], ◌∷◌, ◌++◌, map, Option, Some, None, refl, sym, ap, subst, ◌∙◌}
use Rattle.std.specs.Prelude.{IfSome, is_some}
use Rattle.std.specs.List.{AllByRecursion}
use Rattle.std.specs.Map.{keys_of}
use Rattle.std.proofs.lemmas.Bool.{and_parts}
use Rattle.rules_data.specs.types.Attributes.{big_value}
use Rattle.rules_data.specs.types.Kind.{Kind}
use Rattle.rules_data.specs.types.Kind as k
use Rattle.mich_base.specs.declared.node.Node.{Node}
use Rattle.mich_term.specs.Keyed.{IsIncreasing}
use Rattle.mich_term.specs.Layers.{NoBigMap, PutsNoBigMap, FormedLayer}
use Rattle.mich_term.specs.declared.datum.Datum.{Datum}
use Rattle.mich_term.specs.declared.ticket.Ticket.{Ticket}
use Rattle.mich_term.specs.declared.value.Value.{Value}
use Rattle.mich_term.specs.declared.value.Value.TheOpen.{BigMap-F}
use Rattle.mich_term.specs.declared.value.Value.TheVariants as v
use Rattle.mich_term.specs.declared.value.BigMap.{BigMap, out-BigMap}
use Rattle.mich_term.proofs.ForCallers.Each as e
use Rattle.mich_saved.specs.Formed.{AloneLayer, AreWholeEntries, IsWhole}
use Rattle.mich_saved.specs.Pushes.{entry_pushed, pushed, put_of}
use Rattle.mich_saved.specs.Shown.{IsAloneContract}
use Rattle.mich_saved.specs.declared.parts.ReadContract.{ReadContract}
use Rattle.mich_saved.proofs.Gathered.{put_keys}

-- ---- values without parts

without_parts : (a : Kind) (x : Value) → ((Q : BigMap-F Value BigMap → Type 0) → e.Each Q x) → IsWhole a x
without_parts a x h = record { alone = record { formed = h FormedLayer; alone = h AloneLayer }; plain = λ b. h NoBigMap }

pub unit_whole : (a : Kind) → IsWhole a v.Unit
unit_whole a = without_parts a v.Unit (λ Q. e.of_unit Q)

pub bool_whole : (a : Kind) (b : Bool) → IsWhole a (v.Bool b)
bool_whole a b = without_parts a (v.Bool b) (λ Q. e.of_bool Q b)

pub number_whole : (a : Kind) (n : ℤ) → IsWhole a (v.Number n)
number_whole a n = without_parts a (v.Number n) (λ Q. e.of_number Q n)

pub text_whole : (a : Kind) (s : List ℕ) → IsWhole a (v.Text s)
text_whole a s = without_parts a (v.Text s) (λ Q. e.of_text Q s)

pub bytes_whole : (a : Kind) (s : List ℕ) → IsWhole a (v.Bytes s)
bytes_whole a s = without_parts a (v.Bytes s) (λ Q. e.of_bytes Q s)

pub none_whole : (a : Kind) → IsWhole a v.None
none_whole a = without_parts a v.None (λ Q. e.of_none Q)

pub set_whole : (a : Kind) (ds : List Datum) → IsWhole a (v.Set ds)
set_whole a ds = without_parts a (v.Set ds) (λ Q. e.of_set Q ds)

pub lambda_whole : (a : Kind) (n : Node) (r : Bool) → IsWhole a (v.Lambda n r)
lambda_whole a n r = without_parts a (v.Lambda n r) (λ Q. e.of_lambda Q n r)

pub ticket_whole : (a : Kind) (t : Ticket) → IsWhole a (v.Ticket t)
ticket_whole a t = without_parts a (v.Ticket t) (λ Q. e.of_ticket Q t)

-- ---- values with parts

pub some_whole : (a : Kind) (x : Value) → IsWhole a x → IsWhole (k.option a) (v.Some x)
some_whole a x h = record {
  alone = record { formed = e.of_some FormedLayer x h.alone.formed; alone = e.of_some AloneLayer x h.alone.alone };
  plain = λ b. e.of_some NoBigMap x (h.plain b);
}

pub left_whole : (a b : Kind) (x : Value) → IsWhole a x → IsWhole (k.or a b) (v.Left x)
left_whole a b x h = record {
  alone = record { formed = e.of_left FormedLayer x h.alone.formed; alone = e.of_left AloneLayer x h.alone.alone };
  plain = λ t. e.of_left NoBigMap x (h.plain (and_parts (big_value a) (big_value b) t).0);
}

pub right_whole : (a b : Kind) (x : Value) → IsWhole b x → IsWhole (k.or a b) (v.Right x)
right_whole a b x h = record {
  alone = record { formed = e.of_right FormedLayer x h.alone.formed; alone = e.of_right AloneLayer x h.alone.alone };
  plain = λ t. e.of_right NoBigMap x (h.plain (and_parts (big_value a) (big_value b) t).1);
}

pub pair_whole : (a b : Kind) (x y : Value) → IsWhole a x → IsWhole b y → IsWhole (k.pair a b) (v.Pair x y)
pair_whole a b x y h i = record {
  alone = record { formed = e.of_pair FormedLayer x y h.alone.formed i.alone.formed; alone = e.of_pair AloneLayer x y h.alone.alone i.alone.alone };
  plain = λ t. let s = and_parts (big_value a) (big_value b) t in e.of_pair NoBigMap x y (h.plain s.0) (i.plain s.1);
}

all_push : {A : Type 0} (P : A → Type 0) (xs : List A) (x : A) → AllByRecursion P xs → P x → AllByRecursion P (xs ++ x ∷ [])
all_push P [] x h p = (p, tt)
all_push P (y ∷ xs) x h p = (h.0, all_push P xs x h.1 p)

all_so : {A : Type 0} (P T : A → Type 0) → ((x : A) → P x → T x) → (xs : List A) → AllByRecursion P xs → AllByRecursion T xs
all_so P T f [] h = tt
all_so P T f (x ∷ xs) h = (f x h.0, all_so P T f xs h.1)

pub list_whole : (a : Kind) (xs : List Value) → AllByRecursion (IsWhole a) xs → IsWhole (k.list a) (v.List xs)
list_whole a xs h = record {
  alone = record {
    formed = e.of_list FormedLayer xs (all_so (IsWhole a) (e.Each FormedLayer) (λ x w. w.alone.formed) xs h);
    alone = e.of_list AloneLayer xs (all_so (IsWhole a) (e.Each AloneLayer) (λ x w. w.alone.alone) xs h);
  };
  plain = λ t. e.of_list NoBigMap xs (all_so (IsWhole a) (e.Each NoBigMap) (λ x w. w.plain t) xs h);
}

pub map_whole : (a b : Kind) (es : List (Datum × Value)) → AreWholeEntries b es → IsWhole (k.map a b) (v.Map es)
map_whole a b es h = record {
  alone = record {
    formed = e.of_map FormedLayer es (all_so (λ e. IsWhole b e.1) (e.EachEntry FormedLayer) (λ x w. w.alone.formed) es h);
    alone = e.of_map AloneLayer es (all_so (λ e. IsWhole b e.1) (e.EachEntry AloneLayer) (λ x w. w.alone.alone) es h);
  };
  plain = λ t. e.of_map NoBigMap es (all_so (λ e. IsWhole b e.1) (e.EachEntry NoBigMap) (λ x w. w.plain (and_parts (big_value a) (big_value b) t).1) es h);
}

-- ---- big maps

module _ (b : Kind) where
  put_so : (P : Datum × Option Value → Type 0) → ((d : Datum) (x : Value) → IsWhole b x → P (d, Some x)) → (es : List (Datum × Value)) → AreWholeEntries b es → AllByRecursion P (map put_of es)
  put_so P f [] h = tt
  put_so P f (x ∷ es) h = (f x.0 x.1 h.0, put_so P f es h.1)

pub big_whole : (a b : Kind) (m : BigMap) (es : List (Datum × Value)) → big_value b ≡ true → AreWholeEntries b es → IsIncreasing (keys_of es)
    → (out-BigMap m).base ≡ None → (out-BigMap m).overlay ≡ map put_of es → IsWhole (k.big_map a b) (v.BigMap m)
big_whole a b m es big h s alone is =
    let changes : (P : Datum × Option Value → Type 0) → ((d : Datum) (x : Value) → IsWhole b x → P (d, Some x)) → AllByRecursion P (out-BigMap m).overlay =
    λ P f. subst (AllByRecursion P) (sym is) (put_so b P f es h) in
    let layer : FormedLayer (out-BigMap m) = record {
      keys = subst IsIncreasing (sym (ap keys_of is ∙ put_keys es)) s;
      puts = λ t. changes (λ c. is_some c.1 ≡ true) (λ d x w. refl);
      plain = changes (λ c. PutsNoBigMap c.1) (λ d x w. w.plain big);
      ticketless = λ t. absurd (based (out-BigMap m).base alone t);
    } in
    record {
      alone = record {
        formed = e.of_big FormedLayer m (e.of_changes FormedLayer m (changes (e.EachChange FormedLayer) (λ d x w. w.alone.formed)) layer);
        alone = e.of_big AloneLayer m (e.of_changes AloneLayer m (changes (e.EachChange AloneLayer) (λ d x w. w.alone.alone)) alone);
      };
      plain = λ t. absurd cc;
    }
  where
    based : (o : Option ℕ) → o ≡ None → is_some o ≡ true → ⊥
    based None n t = cc
    based (Some x) n t = cc

-- ---- what is made of what is kept

so_of_some : (P : Value → Type 0) (o : Option Value) (x y : Value) → o ≡ Some x → y ≡ x → IfSome o P → P y
so_of_some P o x y s e h = let p : P x = subst (λ (t : Option Value). IfSome t P) s h in subst P (sym e) p

pub some_made : (o : Option Value) (x y : Value) → o ≡ Some x → y ≡ x → (a : Kind) → IfSome o (IsWhole a) → IsWhole (k.option a) (v.Some y)
some_made o x y s e a h = some_whole a y (so_of_some (IsWhole a) o x y s e h)

pub left_made : (o : Option Value) (x y : Value) → o ≡ Some x → y ≡ x → (a b : Kind) → IfSome o (IsWhole a) → IsWhole (k.or a b) (v.Left y)
left_made o x y s e a b h = left_whole a b y (so_of_some (IsWhole a) o x y s e h)

pub right_made : (o : Option Value) (x y : Value) → o ≡ Some x → y ≡ x → (a b : Kind) → IfSome o (IsWhole b) → IsWhole (k.or a b) (v.Right y)
right_made o x y s e a b h = right_whole a b y (so_of_some (IsWhole b) o x y s e h)

pub pair_made : (o p : Option Value) (x y z w : Value) → o ≡ Some x → y ≡ x → p ≡ Some z → w ≡ z → (a b : Kind) → IfSome o (IsWhole a) → IfSome p (IsWhole b)
    → IsWhole (k.pair a b) (v.Pair y w)
pair_made o p x y z w s e t f a b h i = pair_whole a b y w (so_of_some (IsWhole a) o x y s e h) (so_of_some (IsWhole b) p z w t f i)

pub map_made : (o : Option (List (Datum × Value))) (x y z : List (Datum × Value)) → o ≡ Some x → y ≡ x → z ≡ y → (a b : Kind) → IfSome o (AreWholeEntries b) → IsWhole (k.map a b) (v.Map z)
map_made o x y z s e f a b h =
    let p : AreWholeEntries b x = subst (λ (t : Option (List (Datum × Value))). IfSome t (AreWholeEntries b)) s h in
    map_whole a b z (subst (AreWholeEntries b) (sym (f ∙ e)) p)

-- ---- what is kept, one behind the other

pub values_whole : (a : Kind) (kept after : Option (List Value)) (o : Option Value) → after ≡ pushed kept o → IfSome kept (AllByRecursion (IsWhole a)) → IfSome o (IsWhole a)
    → IfSome after (AllByRecursion (IsWhole a))
values_whole a kept after o e h w = subst (λ (x : Option (List Value)). IfSome x (AllByRecursion (IsWhole a))) (sym e) (by kept o h w)
  where
    by : (kept : Option (List Value)) (o : Option Value) → IfSome kept (AllByRecursion (IsWhole a)) → IfSome o (IsWhole a) → IfSome (pushed kept o) (AllByRecursion (IsWhole a))
    by (Some xs) (Some x) h w = all_push (IsWhole a) xs x h w
    by (Some xs) None h w = tt
    by None o h w = tt

pub entries_whole : (a : Kind) (kept after : Option (List (Datum × Value))) (d : Datum) (o : Option Value) → after ≡ entry_pushed kept d o → IfSome kept (AreWholeEntries a)
    → IfSome o (IsWhole a) → IfSome after (AreWholeEntries a)
entries_whole a kept after d o e h w = subst (λ (x : Option (List (Datum × Value))). IfSome x (AreWholeEntries a)) (sym e) (by kept o h w)
  where
    by : (kept : Option (List (Datum × Value))) (o : Option Value) → IfSome kept (AreWholeEntries a) → IfSome o (IsWhole a) → IfSome (entry_pushed kept d o) (AreWholeEntries a)
    by (Some es) (Some x) h w = all_push (λ (e : Datum × Value). IsWhole a e.1) es (d, x) h w
    by (Some es) None h w = tt
    by None o h w = tt

pub no_values_whole : (a : Kind) (xs : List Value) → xs ≡ [] → AllByRecursion (IsWhole a) xs
no_values_whole a xs e = subst (AllByRecursion (IsWhole a)) (sym e) tt

pub no_entries_whole : (a : Kind) (es : List (Datum × Value)) → es ≡ [] → AreWholeEntries a es
no_entries_whole a es e = subst (AreWholeEntries a) (sym e) tt

-- ---- contracts

pub no_contracts_alone : (cs : List ReadContract) → cs ≡ [] → AllByRecursion IsAloneContract cs
no_contracts_alone cs e = subst (AllByRecursion IsAloneContract) (sym e) tt

pub contracts_alone : (cs ds : List ReadContract) (c : ReadContract) → ds ≡ cs ++ c ∷ [] → AllByRecursion IsAloneContract cs → IsAloneContract c → AllByRecursion IsAloneContract ds
contracts_alone cs ds c e h w = subst (AllByRecursion IsAloneContract) (sym e) (all_push IsAloneContract cs c h w)
