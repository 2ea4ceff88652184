-- `Chain` as a type that may hold the type that holds it. Its value is the list of its elements, of which its vector has the head last.
use Rattle.std.specs.Prelude.{◌≡◌, ℕ, ◌<◌, ◌-◌, List, [], ◌∷◌, map, length, reverse, refl}
use Rattle.std.proofs.Common.{arith}
use Rattle.std.proofs.lemmas.List.{length-reverse, reverse-reverse, get_or-reverse}
use mathlib.Core.List.{reverse_aux}
use mathlib.Core.Path.{sym, ap, ◌∙◌, subst}
use mathlib.Core.Former.{Former, this, list, via, children, over as row_over}
use mir.Val.{Val}
use base.Stored.{code_map}
use base.Fml.{Lft}
use denote.RattleType.{RattleType}
use denote.Known.{Says, Known, All, Says-map, Behind, view_owned, view_shared, declared_known, nothing_known}
use denote.HoleLaws.{Alike}
use denote.HolePlaces.{Recodes, struct_places, laid}
use denote.Hole.Carrier.{listed, list-listed}
use denote.Hole.Fix.{over}
use denote.Param.Weighed.{Weighed, w_list}
use denote.Model.Placed.{view_places}
use Rattle.std.specs.declared.alloc.Global.{Global}
use Rattle.std.specs.contracts.alloc.Global as global
use Rattle.std.specs.contracts.impls.GlobalAllocator.TheImpl.{ghosts}
use Rattle.std.specs.formers.vec.Vec as vec
use Rattle.mich_term.specs.declared.chain.Chain.TheInside.{Inside}
use Rattle.mich_term.specs.declared.chain.Chain.TheView.{view, invariant}
use Rattle.mich_term.specs.contracts.chain.Chain as C
use Rattle.mich_term.specs.contracts.chain.Chain.TheInside as I

abbrev pub the_former : Former {0} → Former {0}
the_former g = list g

abbrev pub the_weighed : {g : Former {0}} → Weighed g → Weighed (the_former g)
the_weighed w = w_list w

pub the_empty : List ⊥
the_empty = []

abbrev pub the_items : (X : Type 0) → List X → List X
the_items X d = d

pub the_items_listed : (X : Type 0) (d : List X) → listed _ (children (the_former this) X d) ≡ the_items X d
the_items_listed X d = list-listed X d

-- the elements seen by h in reverse are the reversed elements seen by h
onto_mapped : {X Y : Type 0} (h : X → Y) (xs ys : List X) → reverse_aux (map h xs) (map h ys) ≡ map h (reverse_aux xs ys)
onto_mapped h [] ys = refl
onto_mapped h (x ∷ xs) ys = onto_mapped h xs (x ∷ ys)

reverse_mapped : {X Y : Type 0} (h : X → Y) (xs : List X) → reverse (map h xs) ≡ map h (reverse xs)
reverse_mapped h xs = onto_mapped h xs []

-- the fields, by the elements of the vector in its own order
abbrev forth : Former {0}
forth = via (vec.the_former this Global) (λ X. Inside X) (λ X a. a.reversed) (λ X v. record { reversed = v }) (λ X a. refl) (λ X v. refl)

-- the same fields with the elements in reverse
abbrev turned : (X : Type 0) → Inside X → Inside X
turned X a = record { reversed = vec.holding a.reversed (reverse a.reversed.items) (vec.fits a.reversed (reverse a.reversed.items) (length-reverse a.reversed.items)) }

turned_turned : (X : Type 0) (a : Inside X) → turned X (turned X a) ≡ a
turned_turned X a = λ i. record { reversed = vec.holding_along a.reversed _ _ (reverse-reverse a.reversed.items) (turned X (turned X a)).reversed.ok a.reversed.ok i }

turned_map : (X Y : Type 0) (h : X → Y) (a : Inside X) → turned Y (forth.map X Y h a) ≡ forth.map X Y h (turned X a)
turned_map X Y h a = λ i. record { reversed = vec.holding_along a.reversed _ _ (reverse_mapped h a.reversed.items) (turned Y (forth.map X Y h a)).reversed.ok (forth.map X Y h (turned X a)).reversed.ok i }

-- the fields, by the elements of the vector from its last one on
abbrev back : Former {0}
back = via forth (λ X. Inside X) turned turned turned_turned turned_turned

same_map : (X Y : Type 0) (h : X → Y) (a : Inside X) → back.map X Y h a ≡ forth.map X Y h a
same_map X Y h a = ap (turned Y) (sym (turned_map X Y h a)) ∙ turned_turned Y (forth.map X Y h a)

abbrev fields : Former {0}
fields = record back {
  map = forth.map;
  get-map = λ X Y h a n v. back.get-map X Y h a n v ∙ (λ i. (same_map X Y h (back.get X a n v).0 i, row_over h n (back.get X a n v).1));
}

module _ (R S : RattleType) (h : R.Denot → S.Denot) where
  pub the_places : Alike R S h → Alike (C.the_row R) (C.the_row S) ((the_former this).map R.Denot S.Denot h)
  the_places a = view_places fields (list this) (λ X. view X) (λ X Y k u. reverse_mapped k u.reversed.items) (λ X u. refl) R.Denot S.Denot h (C.the_row R).coded (C.the_row S).coded
      (invariant R.Denot) (invariant S.Denot) (λ u p q. refl) (λ u p q. refl) (λ u e. tt) (λ u e. tt)
      (over (I.the_row R)) (over (I.the_row S))
      (struct_places (I.the_type R) (I.the_type S) (vec.mapped h, tt) _ (λ d. refl) refl (laid _ _ _ (vec.the_places global.the_row ghosts R S h a), tt))

  pub the_codes_placed : Recodes R S h → Recodes (C.the_row R) (C.the_row S) ((the_former this).map R.Denot S.Denot h)
  the_codes_placed e d = sym (code_map R.coded.code S.coded.code h (λ x. sym (e x)) d)

-- what is known of each element is known of each in reverse
all_reversed : {X : Type 0} (P : X → Type 0) (xs : List X) → All P xs → All P (reverse xs)
all_reversed P xs a i d below =
    let same = length-reverse xs in
    let within : i < length xs = omega arith in
    let place : length xs - 1 - i < length xs = omega arith in
    subst P (sym (get_or-reverse xs i d within)) (a (length xs - 1 - i) d place)

module _ (R : RattleType) (k : Known R) where
  abbrev inside : Known (I.the_row R)
  inside = declared_known (I.the_type R) (vec.the_facts R global.the_row ghosts k (nothing_known global.the_row), tt)

  shown : (d : List R.Denot) → Behind (I.the_row R) inside (List R.Denot) (C.the_row R).coded (C.the_view R) (C.the_invariant R) d → All k.Fact d
  shown d w = subst (All k.Fact) w.1.0 (all_reversed k.Fact _ w.2.0)

  pub known_owned : (d : List R.Denot) (vs : List Val) → Says ((C.the_row R).own_val d vs) (All k.Fact d)
  known_owned d vs = Says-map _ (shown d) (view_owned (I.the_row R) inside (List R.Denot) (C.the_row R).coded (C.the_view R) (C.the_invariant R) d vs)

  pub known_shared : (d : List R.Denot) (b o : ℕ) (κ : Lft) → Says ((C.the_row R).shr_at d b o κ) (All k.Fact d)
  known_shared d b o κ = Says-map _ (shown d) (view_shared (I.the_row R) inside (List R.Denot) (C.the_row R).coded (C.the_view R) (C.the_invariant R) d b o κ)

  abbrev pub the_facts : Known (C.the_row R)
  the_facts = record { Fact = All k.Fact; owned = known_owned; shared = known_shared }
