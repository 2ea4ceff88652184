-- `SharedRows` as a type that may hold the type that holds it. Its value is the list of its elements.
use Rattle.std.specs.Prelude.{◌≡◌, List, [], Option, None, Some, refl}
use mathlib.Core.Path.{sym}
use mathlib.Core.Logic.{◌⊎◌, inl, inr}
use mathlib.Core.Former.{Former, this, const, pair, or, list, via, children}
use base.Stored.{code_map}
use denote.RattleType.{RattleType}
use denote.RawPtr.{Ptr}
use denote.Memory.{part_of}
use denote.HoleLaws.{Alike}
use denote.HolePlaces.{Recodes, struct_places, enum_places, eachs, laid, one_value}
use denote.Hole.Carrier.{listed, list-listed}
use denote.Hole.Fix.{over}
use denote.Param.Weighed.{Weighed, w_list}
use denote.Model.Placed.{held, view_places}
use Rattle.std.specs.declared.rc.Rc.{Rc}
use Rattle.std.specs.declared.vec.Vec.{Vec}
use Rattle.std.specs.declared.alloc.Global.{Global}
use Rattle.std.specs.contracts.alloc.Global as global
use Rattle.std.specs.contracts.option.Option as option
use Rattle.std.specs.contracts.rc.Rc as rc
use Rattle.std.specs.contracts.vec.Vec as v
use Rattle.std.specs.contracts.impls.GlobalAllocator.TheImpl.{ghosts}
use Rattle.std.specs.formers.vec.Vec as vec
use Rattle.mich_base.specs.declared.shared_rows.SharedRows.TheInside.{Inside}
use Rattle.mich_base.specs.declared.shared_rows.SharedRows.TheView.{view, invariant}
use Rattle.mich_base.specs.contracts.shared_rows.SharedRows as C
use Rattle.mich_base.specs.contracts.shared_rows.SharedRows.TheInside as I

abbrev pub the_former : Former {0} → Former {0}
the_former g = list g

abbrev pub the_weighed : {g : Former {0}} → Weighed g → Weighed (the_former g)
the_weighed w = w_list w

pub the_empty : List ⊥
the_empty = []

abbrev pub the_items : (X : Type 0) → List X → List X
the_items X d = d

pub the_items_listed : (X : Type 0) (d : List X) → listed _ (children (the_former this) X d) ≡ the_items X d
the_items_listed X d = list-listed X d

-- the list that several share, and the option of it
abbrev Kept : Type 0 → Type 0
Kept X = Rc (Vec X Global) Global

abbrev kept : Former {0}
kept = via (pair (const Ptr) (vec.the_former this Global)) Kept (λ X a. (a.ptr, a.value)) (λ X p. record { ptr = p.0; value = p.1 }) (λ X a. refl) (λ X p. refl)

module _ {X : Type 0} where
  abbrev split : Option (Kept X) → Unit {0} ⊎ Kept X
  split None = inl tt
  split (Some r) = inr r

  abbrev join : Unit {0} ⊎ Kept X → Option (Kept X)
  join (inl u) = None
  join (inr r) = Some r

  join-split : (o : Option (Kept X)) → join (split o) ≡ o
  join-split None = refl
  join-split (Some r) = refl

  split-join : (o : Unit {0} ⊎ Kept X) → split (join o) ≡ o
  split-join (inl u) = refl
  split-join (inr r) = refl

abbrev choice : Former {0}
choice = via (or (const (Unit {0})) kept) (λ X. Option (Kept X)) (λ X. split) (λ X. join) (λ X. join-split) (λ X. split-join)

abbrev fields : Former {0}
fields = via (pair choice (const Global)) (λ X. Inside X) (λ X a. (a.items, a.alloc)) (λ X p. record { items = p.0; alloc = p.1 }) (λ X a. refl) (λ X p. refl)

abbrev rc_map : {X Y : Type 0} → (X → Y) → Kept X → Kept Y
rc_map h b = record { ptr = b.ptr; value = vec.mapped h b.value }

abbrev option_over : {X Y : Type 0} → (X → Y) → Option (Kept X) → Option (Kept Y)
option_over h None = None
option_over h (Some r) = Some (rc_map h r)

module _ (X : Type 0) where
  abbrev with_items : Inside X → Option (Kept X) → Inside X
  with_items u o = record { items = o; alloc = u.alloc }

  keeps : (u : Inside X) (o : Option (Kept X)) → held (list this) X (view X (with_items u o)) ≡ held fields X (with_items u o)
  keeps u None = refl
  keeps u (Some r) = refl

  module _ (Y : Type 0) (h : X → Y) where
    natural : (u : Inside X) (o : Option (Kept X)) → view Y (fields.map X Y h (with_items u o)) ≡ (list this).map X Y h (view X (with_items u o))
    natural u None = refl
    natural u (Some r) = refl

    mapped : (u : Inside X) (o : Option (Kept X)) → (fields.map X Y h (with_items u o)).items ≡ option_over h o
    mapped u None = refl
    mapped u (Some r) = refl

abbrev vec_row : RattleType → RattleType
vec_row R = v.the_row R global.the_row ghosts

abbrev rc_row : RattleType → RattleType
rc_row R = rc.the_row R global.the_row ghosts

module _ (R S : RattleType) (h : R.Denot → S.Denot) where
  rc_places : (k : R.Denot → S.Denot) → Alike R S k → Alike (rc_row R) (rc_row S) (λ b. record { ptr = b.ptr; value = k b.value })
  unfolding part_of
  rc_places k a = record {
    mir_same = refl;
    own_same = λ d i vs. (rc_row (one_value R (a.mir_same i) (a.own_same d.value i) (a.shr_same d.value i) (R.coded.code d.value))).own_val (record { ptr = d.ptr; value = tt }) vs;
    shr_same = λ d i b o. (rc_row (one_value R (a.mir_same i) (a.own_same d.value i) (a.shr_same d.value i) (R.coded.code d.value))).shr_at (record { ptr = d.ptr; value = tt }) b o;
  }

module _ (R S : RattleType) (h : R.Denot → S.Denot) where
  variant : (o : Option (Kept R.Denot)) → (option.enum (rc_row (vec_row S))).as_values (option_over h o)
      ≡ eachs (option.enum (rc_row (vec_row R))).parts (option.enum (rc_row (vec_row S))).parts (tt, ((rc_map h, tt), tt)) ((option.enum (rc_row (vec_row R))).as_values o)
  variant None = refl
  variant (Some r) = refl

  pub the_places : Alike R S h → Alike (C.the_row R) (C.the_row S) ((the_former this).map R.Denot S.Denot h)
  the_places a =
      let below = rc_places (vec_row R) (vec_row S) (vec.mapped h) (vec.mapped h) (vec.the_places global.the_row ghosts R S h a) in
      let top = enum_places (option.enum (rc_row (vec_row R))) (option.enum (rc_row (vec_row S))) (tt, ((rc_map h, tt), tt)) (option_over h) variant refl (tt, ((laid _ _ _ below, tt), tt)) in
      view_places fields (list this) (λ X. view X) (λ X Y k u. natural X Y k u u.items) (λ X u. keeps X u u.items) R.Denot S.Denot h (C.the_row R).coded (C.the_row S).coded
      (invariant R.Denot) (invariant S.Denot) (λ u p q. refl) (λ u p q. refl) (λ u e. tt) (λ u e. tt)
      (over (I.the_row R)) (over (I.the_row S))
      (struct_places (I.the_type R) (I.the_type S) (option_over h, (λ n. n, tt)) _ (λ d i. (mapped R.Denot S.Denot h d d.items i, (d.alloc, tt))) refl (laid _ _ _ top, ((refl, (λ n. refl, λ n. refl)), tt)))

  pub the_codes_placed : Recodes R S h → Recodes (C.the_row R) (C.the_row S) ((the_former this).map R.Denot S.Denot h)
  the_codes_placed e d = sym (code_map R.coded.code S.coded.code h (λ x. sym (e x)) d)
