-- The kinds of types that are made of others, and the values of lists and sets.
use Rattle.std.proofs.Common.{◌≡◌, List, rules}
use Rattle.rules_data.specs.types.Kind as k
use Rattle.mich_base.specs.TypeView.{kind}
use Rattle.mich_base.specs.declared.ty.Ty.{Ty, the_lemmas}
use Rattle.mich_base.specs.declared.ty.Ty.TheVariants as ty
use Rattle.rules_data.specs.values.Val as v
use Rattle.mich_term.specs.View.{datums}
use Rattle.mich_term.specs.ValueView.{val, vals, big_pairs}
use Rattle.mich_term.specs.declared.value.BigMap.{BigMap}
use Rattle.mich_term.specs.declared.datum.Datum.{Datum}
use Rattle.mich_term.specs.declared.value.Value.{Value}
use Rattle.mich_term.specs.declared.value.Value as values
use Rattle.mich_term.specs.declared.value.Value.TheVariants as value

pub kind_pair : (a b : Ty) → kind (ty.Pair a b) ≡ k.pair (kind a) (kind b)
kind_pair a b = search (rules, the_lemmas)

pub kind_list : (a : Ty) → kind (ty.List a) ≡ k.list (kind a)
kind_list a = search (rules, the_lemmas)

pub kind_set : (a : Ty) → kind (ty.Set a) ≡ k.set (kind a)
kind_set a = search (rules, the_lemmas)

pub kind_map : (a b : Ty) → kind (ty.Map a b) ≡ k.map (kind a) (kind b)
kind_map a b = search (rules, the_lemmas)

pub kind_big_map : (a b : Ty) → kind (ty.BigMap a b) ≡ k.big_map (kind a) (kind b)
kind_big_map a b = search (rules, the_lemmas)

pub val_list : (vs : List Value) → val (value.List vs) ≡ v.list (vals vs)
val_list vs = search (rules, values.the_lemmas)

pub val_big_map : (b : BigMap) → val (value.BigMap b) ≡ v.big_table (big_pairs b)
val_big_map b = search (rules, values.the_lemmas)

pub val_set : (ds : List Datum) → val (value.Set ds) ≡ v.set (datums ds)
val_set ds = search (rules, values.the_lemmas)
