-- Steps on pairs and combs.
use Rattle.std.proofs.Common.{◌≡◌, ℕ, zero, suc, ◌-◌, List, [], ◌∷◌, ◌++◌, Option, Some, None, refl, sym, ap, ◌∙◌, subst, append_assoc, append-nil}
use Rattle.std.specs.Prelude.{◌+ℤ◌, drop, option_map}
use Rattle.std.specs.List.{flat_map}
use Rattle.std.proofs.Math.IntN.{+ℤ_assoc, +ℤ_comm, +ℤ_idl}
use Rattle.std.proofs.lemmas.Grind.{flat_map-append}
use Rattle.rules_data.specs.types.Kind.{Kind}
use Rattle.rules_data.specs.types.Kind as k
use Rattle.rules_data.specs.values.Val.{Val}
use Rattle.rules_data.specs.values.Val as v
use Rattle.rules_data.specs.values.Tickets.{Identity, tickets}
use Rattle.rules_code.specs.instructions.Straight.{PairRow}
use Rattle.rules_code.specs.instructions.Straight as i
use Rattle.rules_code.specs.instructions.Change.{makes}
use Rattle.rules_code.specs.instructions.StackChanges.{pair_change}
use Rattle.rules_code.specs.instructions.StackChanges as kinds
use Rattle.rules_code.specs.steps.Changes.{amount_in}
use Rattle.rules_code.specs.steps.Step.{kept, discarding}
use Rattle.rules_code.specs.steps.Stack.{comb, parts, Part, passing, part_at, Replaced, behind, replaced, pair_step}
use Rattle.laws_tickets.specs.totals.Agreement.{Agrees, AllAgree}
use Rattle.laws_tickets.specs.totals.Totals.{amount_on}
use Rattle.laws_tickets.proofs.totals.ForCallers.{on_cons, on_one, in_both, swapped, inner_second, KeepsChange, keeps_same, keeps_discarding, change_then, change_map, step_some, agree_append, agree_drop}

-- what may be there, with its parts
some_map : {A B : Type 0} (f : A → B) (o : Option A) (y : B) → option_map f o ≡ Some y → (x : A) × (o ≡ Some x) × (f x ≡ y)
some_map f (Some x) y e = let g : f x ≡ y = cc in (x, refl, g)
some_map f None y e = absurd cc

-- ---- combs

-- a comb of values agrees with that of their types, and holds their tickets
record IsComb (n : ℕ) (c : Kind) (y x : Val) (V : List Val) : Type 0 where
  agrees : Agrees c y
  same : flat_map tickets (x ∷ V) ≡ tickets y ++ flat_map tickets (drop n V)

comb_is : (n : ℕ) (a : Kind) (A : List Kind) (x : Val) (V : List Val) (c : Kind) (y : Val) → Agrees a x → AllAgree A V →
    kinds.comb n a A ≡ Some c → comb n x V ≡ Some y → IsComb n c y x V
comb_is zero a A x V c y h g e f =
    let i : a ≡ c = cc in
    let j : x ≡ y = cc in
    subst (λ z. IsComb 0 c z x V) j (record { agrees = subst (λ d. Agrees d x) i h; same = refl })
comb_is (suc n) a (b ∷ A) x (w ∷ V) c y h g e f =
    let p = some_map (k.pair a) (kinds.comb n b A) c e in
    let q = some_map (v.both x) (comb n w V) y f in
    let r = comb_is n b A w V p.0 q.0 g.0 g.1 p.1 q.1 in
    subst (λ z. IsComb (suc n) c z x (w ∷ V)) q.2 (record {
      agrees = subst (λ d. Agrees d (v.both x q.0)) p.2 (h, r.agrees);
      same = ap (λ ts. tickets x ++ ts) r.same ∙ sym (append_assoc (tickets x) (tickets q.0) (flat_map tickets (drop n V)));
    })
comb_is (suc n) a [] x V c y h g e f = absurd cc
comb_is (suc n) a (b ∷ A) x [] c y h g e f = absurd cc

record AreParts (ps : List Kind) (ys : List Val) (x : Val) : Type 0 where
  agree : AllAgree ps ys
  same : tickets x ≡ flat_map tickets ys

parts_are : (n : ℕ) (a : Kind) (x : Val) (ps : List Kind) (ys : List Val) → Agrees a x → kinds.parts n a ≡ Some ps →
    parts n x ≡ Some ys → AreParts ps ys x
parts_are zero a x ps ys h e f =
    let i : a ∷ [] ≡ ps = cc in
    let j : x ∷ [] ≡ ys = cc in
    subst (λ z. AreParts ps z x) j (record {
      agree = subst (λ d. AllAgree d (x ∷ [])) i (h, tt);
      same = sym
          (append-nil (tickets x));
    })
parts_are (suc n) (k.pair a b) (v.both x y) ps ys h e f =
    let p = some_map (λ qs. a ∷ qs) (kinds.parts n b) ps e in
    let q = some_map (λ zs. x ∷ zs) (parts n y) ys f in
    let r = parts_are n b y p.0 q.0 h.1 p.1 q.1 in
    subst (λ z. AreParts ps z (v.both x y)) q.2 (record {
      agree = subst (λ d. AllAgree d (x ∷ q.0)) p.2 (h.0, r.agree);
      same = ap (λ ts. tickets x ++ ts) r.same;
    })
parts_are (suc n) (k.pair a b) _ ps ys h e f = absurd h
parts_are (suc n) _ x ps ys h e f = absurd cc

-- ---- a part of a comb

record IsPart (c : Kind) (p : Part) (x : Val) : Type 0 where
  agrees : Agrees c p.found
  same : (id : Identity) → amount_in id x ≡ amount_on id (p.before ++ p.behind) +ℤ amount_in id p.found

part_is : (n : ℕ) (a : Kind) (x : Val) (c : Kind) (p : Part) → Agrees a x → kinds.part n a ≡ Some c → part_at n x ≡ Some p →
    IsPart c p x
part_is zero a x c p h e f =
    let i : a ≡ c = cc in
    let j : record { before = []; found = x; behind = [] } ≡ p = cc in
    subst (λ z. IsPart c z x) j (record { agrees = subst (λ d. Agrees d x) i h; same = λ id. sym (+ℤ_idl (amount_in id x)) })
part_is (suc zero) (k.pair a b) (v.both x y) c p h e f =
    let i : a ≡ c = cc in
    let j : record { before = []; found = x; behind = y ∷ [] } ≡ p = cc in
    subst (λ z. IsPart c z (v.both x y)) j (record {
      agrees = subst (λ d. Agrees d x) i h.0;
      same = λ id. in_both id x y ∙ +ℤ_comm (amount_in id x) (amount_in id y) ∙ ap (λ z. z +ℤ amount_in id x) (sym (on_one id y));
    })
part_is (suc (suc n)) (k.pair a b) (v.both x y) c p h e f =
    let q = some_map (passing x) (part_at n y) p f in
    let r = part_is n b y c q.0 h.1 e q.1 in
    subst (λ z. IsPart c z (v.both x y)) q.2 (record {
      agrees = r.agrees;
      same = λ id. in_both id x y ∙ ap (λ z. amount_in id x +ℤ z) (r.same id) ∙ sym
          (+ℤ_assoc (amount_in id x) (amount_on id (q.0.before ++ q.0.behind)) (amount_in id q.0.found))
          ∙ ap (λ z. z +ℤ amount_in id q.0.found) (sym (on_cons id x (q.0.before ++ q.0.behind)));
    })
part_is (suc zero) (k.pair a b) _ c p h e f = absurd h
part_is (suc (suc n)) (k.pair a b) _ c p h e f = absurd h
part_is (suc zero) _ x c p h e f = absurd cc
part_is (suc (suc n)) _ x c p h e f = absurd cc

-- a comb with another part in a place
record IsReplaced (c : Kind) (r : Replaced) (x y : Val) : Type 0 where
  agrees : Agrees c r.comb
  same : (id : Identity) → amount_in id y +ℤ amount_in id x ≡ amount_in id r.old +ℤ amount_in id r.comb

replaced_is : (n : ℕ) (b a : Kind) (y x : Val) (c : Kind) (r : Replaced) → Agrees b y → Agrees a x →
    kinds.with_part n b a ≡ Some c → replaced n y x ≡ Some r → IsReplaced c r x y
replaced_is zero b a y x c r g h e f =
    let i : b ≡ c = cc in
    let j : record { comb = y; old = x } ≡ r = cc in
    subst (λ z. IsReplaced c z x y) j (record {
      agrees = subst (λ d. Agrees d y) i g;
      same = λ id. +ℤ_comm (amount_in id y)
          (amount_in id x);
    })
replaced_is (suc zero) b (k.pair a d) y (v.both x w) c r g h e f =
    let i : k.pair b d ≡ c = cc in
    let j : record { comb = v.both y w; old = x } ≡ r = cc in
    subst (λ z. IsReplaced c z (v.both x w) y) j (record {
      agrees = subst (λ q. Agrees q (v.both y w)) i (g, h.1);
      same = λ id. ap (λ z. amount_in id y +ℤ z) (in_both id x w) ∙ swapped (amount_in id y) (amount_in id x) (amount_in id w)
          ∙ ap (λ z. amount_in id x +ℤ z) (sym (in_both id y w));
    })
replaced_is (suc (suc n)) b (k.pair a d) y (v.both x w) c r g h e f =
    let p = some_map (k.pair a) (kinds.with_part n b d) c e in
    let q = some_map (behind x) (replaced n y w) r f in
    let l = replaced_is n b d y w p.0 q.0 g h.1 p.1 q.1 in
    subst (λ z. IsReplaced c z (v.both x w) y) q.2 (record {
      agrees = subst (λ z. Agrees z (v.both x q.0.comb)) p.2 (h.0, l.agrees);
      same = λ id. ap (λ z. amount_in id y +ℤ z) (in_both id x w) ∙ swapped (amount_in id y) (amount_in id x) (amount_in id w)
          ∙ ap (λ z. amount_in id x +ℤ z) (l.same id) ∙ swapped (amount_in id x) (amount_in id q.0.old) (amount_in id q.0.comb)
          ∙ ap (λ z. amount_in id q.0.old +ℤ z) (sym (in_both id x q.0.comb));
    })
replaced_is (suc zero) b (k.pair a d) y _ c r g h e f = absurd h
replaced_is (suc (suc n)) b (k.pair a d) y _ c r g h e f = absurd h
replaced_is (suc zero) b _ y x c r g h e f = absurd cc
replaced_is (suc (suc n)) b _ y x c r g h e f = absurd cc

-- ---- all

first_amount : (id : Identity) (x y : Val) (V : List Val) →
    amount_on id (v.both x y ∷ V) ≡ amount_on id (y ∷ []) +ℤ amount_on id (x ∷ V)
first_amount id x y V =
    on_cons id (v.both x y) V ∙ ap (λ z. z +ℤ amount_on id V) (in_both id x y) ∙ inner_second (amount_in id x) (amount_in id y)
    (amount_on id V)
    ∙ ap (λ z. z +ℤ (amount_in id x +ℤ amount_on id V)) (sym (on_one id y)) ∙ ap (λ z. amount_on id (y ∷ []) +ℤ z)
    (sym (on_cons id x V))

second_amount : (id : Identity) (x y : Val) (V : List Val) →
    amount_on id (v.both x y ∷ V) ≡ amount_on id (x ∷ []) +ℤ amount_on id (y ∷ V)
second_amount id x y V =
    on_cons id (v.both x y) V ∙ ap (λ z. z +ℤ amount_on id V) (in_both id x y) ∙ +ℤ_assoc (amount_in id x) (amount_in id y)
    (amount_on id V)
    ∙ ap (λ z. z +ℤ (amount_in id y +ℤ amount_on id V)) (sym (on_one id x)) ∙ ap (λ z. amount_on id (x ∷ []) +ℤ z)
    (sym (on_cons id y V))

part_amount : (id : Identity) (x : Val) (gone : List Val) (y : Val) (V : List Val) →
    amount_in id x ≡ amount_on id gone +ℤ amount_in id y → amount_on id (x ∷ V) ≡ amount_on id gone +ℤ amount_on id (y ∷ V)
part_amount id x gone y V e =
    on_cons id x V ∙ ap (λ z. z +ℤ amount_on id V) e ∙ +ℤ_assoc (amount_on id gone) (amount_in id y) (amount_on id V) ∙ ap
    (λ z. amount_on id gone +ℤ z) (sym (on_cons id y V))

replaced_amount : (id : Identity) (y x old z : Val) (V : List Val) →
    amount_in id y +ℤ amount_in id x ≡ amount_in id old +ℤ amount_in id z →
    amount_on id (y ∷ x ∷ V) ≡ amount_on id (old ∷ []) +ℤ amount_on id (z ∷ V)
replaced_amount id y x old z V e =
    on_cons id y (x ∷ V) ∙ ap (λ q. amount_in id y +ℤ q) (on_cons id x V) ∙ sym
    (+ℤ_assoc (amount_in id y) (amount_in id x) (amount_on id V))
    ∙ ap (λ q. q +ℤ amount_on id V) e ∙ +ℤ_assoc (amount_in id old) (amount_in id z) (amount_on id V)
    ∙ ap (λ q. q +ℤ (amount_in id z +ℤ amount_on id V)) (sym (on_one id old)) ∙ ap (λ q. amount_on id (old ∷ []) +ℤ q)
    (sym (on_cons id z V))

pub pair_keeps : (r : PairRow) (A : List Kind) (V : List Val) → AllAgree A V → KeepsChange (pair_change r A) V (pair_step r V)
pair_keeps (i.pair n) (a ∷ A) (x ∷ V) h =
    change_then (kinds.comb (n - 1) a A) (λ c. makes c (drop (n - 1) A)) (x ∷ V) (pair_step (i.pair n) (x ∷ V)) (λ c e.
    step_some (comb (n - 1) x V) (c ∷ drop (n - 1) A) (x ∷ V) (λ y. kept (y ∷ drop (n - 1) V)) (λ y f.
    let p = comb_is (n - 1) a A x V c y h.0 h.1 e f in
    keeps_same (c ∷ drop (n - 1) A) (x ∷ V) (y ∷ drop (n - 1) V) (p.agrees, agree_drop (n - 1) A V h.1) p.same))
pair_keeps (i.unpair n) (a ∷ A) (x ∷ V) h =
    change_map (kinds.parts (n - 1) a) (λ ps. record { made = ps; kept = A }) (x ∷ V) (pair_step (i.unpair n) (x ∷ V)) (λ ps e.
    step_some (parts (n - 1) x) (ps ++ A) (x ∷ V) (λ ys. kept (ys ++ V)) (λ ys f.
    let p = parts_are (n - 1) a x ps ys h.0 e f in
    keeps_same (ps ++ A) (x ∷ V) (ys ++ V) (agree_append ps A ys V p.agree h.1)
    (ap (λ ts. ts ++ flat_map tickets V) p.same ∙ sym (flat_map-append tickets ys V))))
pair_keeps i.car (k.pair a b ∷ A) (v.both x y ∷ V) h =
    keeps_discarding (a ∷ A) (v.both x y ∷ V) (y ∷ []) (x ∷ V) (h.0.0, h.1) (λ id. first_amount id x y V)
pair_keeps i.cdr (k.pair a b ∷ A) (v.both x y ∷ V) h =
    keeps_discarding (b ∷ A) (v.both x y ∷ V) (x ∷ []) (y ∷ V) (h.0.1, h.1) (λ id. second_amount id x y V)
pair_keeps (i.get_part n) (a ∷ A) (x ∷ V) h =
    change_then (kinds.part n a) (λ c. makes c A) (x ∷ V) (pair_step (i.get_part n) (x ∷ V)) (λ c e.
    step_some (part_at n x) (c ∷ A) (x ∷ V) (λ p. discarding (p.before ++ p.behind) (p.found ∷ V)) (λ p f.
    let q = part_is n a x c p h.0 e f in
    keeps_discarding (c ∷ A) (x ∷ V) (p.before ++ p.behind) (p.found ∷ V) (q.agrees, h.1)
    (λ id. part_amount id x (p.before ++ p.behind) p.found V (q.same id))))
pair_keeps (i.update_part n) (b ∷ a ∷ A) (y ∷ x ∷ V) h =
    change_then (kinds.with_part n b a) (λ c. makes c A) (y ∷ x ∷ V) (pair_step (i.update_part n) (y ∷ x ∷ V)) (λ c e.
    step_some (replaced n y x) (c ∷ A) (y ∷ x ∷ V) (λ r. discarding (r.old ∷ []) (r.comb ∷ V)) (λ r f.
    let q = replaced_is n b a y x c r h.0 h.1.0 e f in
    keeps_discarding (c ∷ A) (y ∷ x ∷ V) (r.old ∷ []) (r.comb ∷ V) (q.agrees, h.1.1)
    (λ id. replaced_amount id y x r.old r.comb V (q.same id))))
pair_keeps (i.pair n) [] V h = tt
pair_keeps (i.pair n) (a ∷ A) [] h = absurd h
pair_keeps (i.unpair n) [] V h = tt
pair_keeps (i.unpair n) (a ∷ A) [] h = absurd h
pair_keeps i.car [] V h = tt
pair_keeps i.car (a ∷ A) [] h = absurd h
pair_keeps i.cdr [] V h = tt
pair_keeps i.cdr (a ∷ A) [] h = absurd h
pair_keeps (i.get_part n) [] V h = tt
pair_keeps (i.get_part n) (a ∷ A) [] h = absurd h
pair_keeps (i.update_part n) [] V h = tt
pair_keeps (i.update_part n) (a ∷ A) [] h = absurd h
pair_keeps (i.update_part n) (b ∷ []) (y ∷ V) h = tt
pair_keeps (i.update_part n) (b ∷ a ∷ A) (y ∷ []) h = absurd h.1
pair_keeps i.car (k.pair a b ∷ A) (_ ∷ V) h = absurd h.0
pair_keeps i.cdr (k.pair a b ∷ A) (_ ∷ V) h = absurd h.0
pair_keeps i.car (_ ∷ A) (x ∷ V) h = tt
pair_keeps i.cdr (_ ∷ A) (x ∷ V) h = tt
