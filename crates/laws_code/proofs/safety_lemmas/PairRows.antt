-- Pairs, options, unions and lists.
use Rattle.std.proofs.Common.{◌≡◌, ℕ, zero, suc, ◌-◌, Bool, true, false, List, [], ◌∷◌, ◌++◌, drop, Option, Some, None, refl, sym, ap, subst, arith, pos}
use Rattle.std.specs.Prelude.{◌+ℤ◌, ◌≤ℤ◌, option_map, option_and_then}
use Rattle.std.specs.List.{flat_map}
use Rattle.std.proofs.lemmas.Int.{ints}
use Rattle.rules_data.specs.types.Kind.{Kind}
use Rattle.rules_data.specs.types.Kind as k
use Rattle.rules_code.specs.instructions.Same.{same_kind}
use Rattle.rules_code.specs.instructions.Change.{makes, keeps, where_true}
use Rattle.rules_code.specs.instructions.StackChanges.{pair_change}
use Rattle.rules_code.specs.instructions.StackChanges as kinds
use Rattle.rules_code.specs.instructions.DataChanges.{union_change}
use Rattle.rules_code.specs.instructions.Straight.{PairRow, UnionRow}
use Rattle.rules_code.specs.instructions.Straight as i
use Rattle.rules_data.specs.values.Val.{Val, Vals, more_vals}
use Rattle.rules_data.specs.values.Val as v
use Rattle.rules_data.specs.values.Tickets.{Identity, tickets, all_tickets}
use Rattle.rules_code.specs.steps.Changes.{amount_in}
use Rattle.rules_code.specs.steps.Step.{kept, discarding, on_some}
use Rattle.rules_code.specs.steps.Stack.{Part, Replaced, passing, behind, pair_step, union_step}
use Rattle.rules_code.specs.steps.Stack as values
use Rattle.rules_code.specs.typing.Fits.{Known, Fits, AllFit}
use Rattle.laws_code.specs.evaluation.Laws.{amount_on}
use Rattle.laws_data.proofs.types_lemmas.ForCallers.{same_kind_true}
use Rattle.laws_data.proofs.amounts.ForCallers.{among_append}
use Rattle.laws_code.proofs.stacks.ForCallers.{on-append, positive, fit-append, tickets_good, one_good}
use Rattle.laws_code.proofs.control.ForCallers.{fit_drop}
use Rattle.laws_code.proofs.steps.ForCallers.{quiet_none, quiet_burns, RowStep, StepFits}
use Rattle.std.specs.List.{All}
use Rattle.std.proofs.lemmas.List.Elements.{All-nil, All-append}
use Rattle.rules_world.specs.world.Forms.{IsTicket}

-- ---- combs

record Combed (w : Known) (n : ℕ) (x : Val) (V : List Val) (c : Kind) : Type 0 where
  value : Val
  is : values.comb n x V ≡ Some value
  fits : Fits w c value
  amount : (id : Identity) → (amount_in id value +ℤ amount_on id (drop n V)) ≡ amount_on id (x ∷ V)

combed : (w : Known) (n : ℕ) (a : Kind) (A : List Kind) (x : Val) (V : List Val) → Fits w a x → AllFit w A V → (c : Kind) →
    kinds.comb n a A ≡ Some c → Combed w n x V c
combed w zero a A x V f h c e = let g : a ≡ c = cc in record {
  value = x;
  is = refl;
  fits = subst (λ b. Fits w b x) g f;
  amount = λ id. omega (arith, ints);
}
combed w (suc n) a [] x V f h c e = absurd cc
combed w (suc n) a (b ∷ A) x [] f h c e = absurd h
combed w (suc n) a (b ∷ A) x (y ∷ V) f h c e = by_rest (kinds.comb n b A) (λ d g. combed w n b A y V h.0 h.1 d g) e
  where
    by_rest : (o : Option Kind) → ((d : Kind) → o ≡ Some d → Combed w n y V d) → option_map (k.pair a) o ≡ Some c →
        Combed w (suc n) x (y ∷ V) c
    by_rest None g e = absurd cc
    by_rest (Some d) g e =
        let r : Combed w n y V d = g d refl in
        let same : k.pair a d ≡ c = cc in
        record {
          value = v.both x r.value;
          is = ap (option_map (v.both x)) r.is;
          fits = subst (λ b. Fits w b (v.both x r.value)) same (f, r.fits);
          amount = λ id. let p : (amount_in id r.value +ℤ amount_on id (drop n V)) ≡ amount_on id (y ∷ V) = r.amount id in
              omega (arith, ints, among_append id (tickets x) (tickets r.value));
        }

record Parted (w : Known) (n : ℕ) (x : Val) (ps : List Kind) : Type 0 where
  parts : List Val
  are : values.parts n x ≡ Some parts
  fit : AllFit w ps parts
  amount : (id : Identity) → amount_on id parts ≡ amount_in id x

parted : (w : Known) (n : ℕ) (a : Kind) (x : Val) → Fits w a x → (ps : List Kind) → kinds.parts n a ≡ Some ps → Parted w n x ps
parted w zero a x f ps e = let g : a ∷ [] ≡ ps = cc in record
    { parts = x ∷ []; are = refl; fit = subst (λ B. AllFit w B (x ∷ [])) g (f, tt); amount = λ id. omega (arith, ints) }
parted w (suc n) (k.pair a b) (v.both x y) f ps e = by_rest (kinds.parts n b) (λ qs g. parted w n b y f.1 qs g) e
  where
    by_rest : (o : Option (List Kind)) → ((qs : List Kind) → o ≡ Some qs → Parted w n y qs) →
        option_map (λ qs. a ∷ qs) o ≡ Some ps → Parted w (suc n) (v.both x y) ps
    by_rest None g e = absurd cc
    by_rest (Some qs) g e =
        let r : Parted w n y qs = g qs refl in
        let same : a ∷ qs ≡ ps = cc in
        record {
          parts = x ∷ r.parts;
          are = ap (option_map (λ vs. x ∷ vs)) r.are;
          fit = subst (λ B. AllFit w B (x ∷ r.parts)) same (f.0, r.fit);
          amount = λ id. let p : amount_on id r.parts ≡ amount_in id y = r.amount id in
              omega (arith, ints, among_append id (tickets x) (tickets y));
        }
parted w (suc n) (k.pair a b) x f ps e = absurd f
parted w (suc n) _ x f ps e = absurd cc

record Found (w : Known) (n : ℕ) (x : Val) (c : Kind) : Type 0 where
  part : Part
  is : values.part_at n x ≡ Some part
  fits : Fits w c part.found
  amount : (id : Identity) → amount_in id part.found ≤ℤ amount_in id x
  others : All IsTicket (flat_map tickets (part.before ++ part.behind))

found_part : (w : Known) (n : ℕ) (a : Kind) (x : Val) → Fits w a x → (c : Kind) → kinds.part n a ≡ Some c → Found w n x c
found_part w zero a x f c e = let g : a ≡ c = cc in record {
  part = record { before = []; found = x; behind = [] };
  is =
      refl;
  fits = subst (λ b. Fits w b x) g f;
  amount = λ id. omega (arith, ints);
  others = All-nil IsTicket;
}
found_part w (suc zero) (k.pair a b) (v.both x y) f c e =
    let g : a ≡ c = cc in
    record {
      part = record { before = []; found = x; behind = y ∷ [] };
      is = refl;
      fits = subst (λ b. Fits w b x) g f.0;
      amount = λ id. let p : pos 0 ≤ℤ amount_in id y = positive id w b y f.1 in
          omega (arith, ints, among_append id (tickets x) (tickets y));
      others = one_good w b y f.1;
    }
found_part w (suc (suc n)) (k.pair a b) (v.both x y) f c e =
    let r : Found w n y c = found_part w n b y f.1 c e in
    record {
      part = passing x r.part;
      is = ap (option_map (passing x)) r.is;
      fits = r.fits;
      amount = λ id. let p : pos 0 ≤ℤ amount_in id x = positive id w a x f.0 in
          let q : amount_in id r.part.found ≤ℤ amount_in id y = r.amount id in
          omega (arith, ints, among_append id (tickets x) (tickets y));
      others = All-append IsTicket (tickets x) (flat_map tickets (r.part.before ++ r.part.behind))
          (tickets_good w a x f.0) r.others;
    }
found_part w (suc n) (k.pair a b) x f c e = absurd f
found_part w (suc zero) _ x f c e = absurd cc
found_part w (suc (suc n)) _ x f c e = absurd cc

record Changed (w : Known) (n : ℕ) (y x : Val) (c : Kind) : Type 0 where
  result : Replaced
  is : values.replaced n y x ≡ Some result
  fits : Fits w c result.comb
  amount : (id : Identity) → amount_in id result.comb ≤ℤ (amount_in id y +ℤ amount_in id x)
  old : All IsTicket (flat_map tickets (result.old ∷ []))

changed : (w : Known) (n : ℕ) (b a : Kind) (y x : Val) → Fits w b y → Fits w a x → (c : Kind) →
    kinds.with_part n b a ≡ Some c → Changed w n y x c
changed w zero b a y x g f c e =
    let same : b ≡ c = cc in
    record {
      result = record { comb = y; old = x };
      is = refl;
      fits = subst (λ b. Fits w b y) same g;
      amount =
          λ id. let p : pos 0 ≤ℤ amount_in id x = positive id w a x f in omega (arith, ints);
      old = one_good w a x f;
    }
changed w (suc zero) b (k.pair a d) y (v.both x z) g f c e =
    let same : k.pair b d ≡ c = cc in
    record {
      result = record { comb = v.both y z; old = x };
      is = refl;
      fits = subst (λ b. Fits w b (v.both y z)) same (g, f.1);
      amount = λ id. let p : pos 0 ≤ℤ amount_in id x = positive id w a x f.0 in
          omega (arith, ints, among_append id (tickets x) (tickets z), among_append id (tickets y) (tickets z));
      old = one_good w a x f.0;
    }
changed w (suc (suc n)) b (k.pair a d) y (v.both x z) g f c e = by_rest (kinds.with_part n b d)
    (λ t q. changed w n b d y z g f.1 t q) e
  where
    by_rest : (o : Option Kind) → ((t : Kind) → o ≡ Some t → Changed w n y z t) → option_map (k.pair a) o ≡ Some c →
        Changed w (suc (suc n)) y (v.both x z) c
    by_rest None q e = absurd cc
    by_rest (Some t) q e =
        let r : Changed w n y z t = q t refl in
        let same : k.pair a t ≡ c = cc in
        record {
          result = behind x r.result;
          is = ap (option_map (behind x)) r.is;
          fits = subst (λ b. Fits w b (v.both x r.result.comb)) same (f.0, r.fits);
          amount = λ id. let p : amount_in id r.result.comb ≤ℤ (amount_in id y +ℤ amount_in id z) = r.amount id in
              omega (arith, ints, among_append id (tickets x) (tickets z), among_append id (tickets x) (tickets r.result.comb));
          old = r.old;
        }
changed w (suc n) b (k.pair a d) y x g f c e = absurd f
changed w (suc zero) b _ y x g f c e = absurd cc
changed w (suc (suc n)) b _ y x g f c e = absurd cc

module _ (w : Known) where
  combs : (n : ℕ) (a : Kind) (A : List Kind) (x : Val) (V : List Val) → AllFit w (a ∷ A) (x ∷ V) → (o : Option Kind) →
      kinds.comb n a A ≡ o →
      StepFits w (x ∷ V) (option_and_then (λ c. makes c (drop n A)) o) (on_some (values.comb n x V) (λ c. kept (c ∷ drop n V)))
  combs n a A x V h None e = tt
  combs n a A x V h (Some c) e =
      let r : Combed w n x V c = combed w n a A x V h.0 h.1 c e in
      subst (λ o. RowStep w (x ∷ V) (c ∷ drop n A) (on_some o (λ c. kept (c ∷ drop n V)))) (sym r.is) (
        (r.fits, fit_drop w n A V h.1),
        (λ id. let p : (amount_in id r.value +ℤ amount_on id (drop n V)) ≡ amount_on id
            (x ∷ V) = r.amount id in omega (arith, ints)),
        quiet_none,
      )

  parts_of : (n : ℕ) (a : Kind) (A : List Kind) (x : Val) (V : List Val) → AllFit w (a ∷ A) (x ∷ V) →
      (o : Option (List Kind)) → kinds.parts n a ≡ o →
      StepFits w (x ∷ V) (option_map (λ ps. record { made = ps; kept = A }) o) (on_some (values.parts n x) (λ vs. kept (vs ++ V)))
  parts_of n a A x V h None e = tt
  parts_of n a A x V h (Some ps) e =
      let r : Parted w n x ps = parted w n a x h.0 ps e in
      subst (λ o. RowStep w (x ∷ V) (ps ++ A) (on_some o (λ vs. kept (vs ++ V)))) (sym r.are) (
        fit-append w ps A r.parts V r.fit h.1,
        (λ id. let p : amount_on id r.parts ≡ amount_in id x = r.amount id in
            omega (arith, ints, on-append id r.parts V)),
        quiet_none,
      )

  gets : (n : ℕ) (a : Kind) (A : List Kind) (x : Val) (V : List Val) → AllFit w (a ∷ A) (x ∷ V) → (o : Option Kind) →
      kinds.part n a ≡ o →
      StepFits w (x ∷ V) (option_and_then (λ c. makes c A) o)
      (on_some (values.part_at n x) (λ p. discarding (p.before ++ p.behind) (p.found ∷ V)))
  gets n a A x V h None e = tt
  gets n a A x V h (Some c) e =
      let r : Found w n x c = found_part w n a x h.0 c e in
      subst (λ o. RowStep w (x ∷ V) (c ∷ A) (on_some o (λ p. discarding (p.before ++ p.behind) (p.found ∷ V)))) (sym r.is) (
        (r.fits, h.1),
        (λ id. let p : amount_in id r.part.found ≤ℤ amount_in id x = r.amount id in omega (arith, ints)),
        quiet_burns (flat_map tickets (r.part.before ++ r.part.behind)) r.others,
      )

  sets : (n : ℕ) (b a : Kind) (A : List Kind) (y x : Val) (V : List Val) → AllFit w (b ∷ a ∷ A) (y ∷ x ∷ V) →
      (o : Option Kind) → kinds.with_part n b a ≡ o →
      StepFits w (y ∷ x ∷ V) (option_and_then (λ c. makes c A) o)
      (on_some (values.replaced n y x) (λ r. discarding (r.old ∷ []) (r.comb ∷ V)))
  sets n b a A y x V h None e = tt
  sets n b a A y x V h (Some c) e =
      let r : Changed w n y x c = changed w n b a y x h.0 h.1.0 c e in
      subst (λ o. RowStep w (y ∷ x ∷ V) (c ∷ A) (on_some o (λ r. discarding (r.old ∷ []) (r.comb ∷ V)))) (sym r.is) (
        (r.fits, h.1.1),
        (λ id. let p : amount_in id r.result.comb ≤ℤ (amount_in id y +ℤ amount_in id x) = r.amount id in
            omega (arith, ints)),
        quiet_burns (flat_map tickets (r.result.old ∷ [])) r.old,
      )

  pub pair_keeps : (r : PairRow) (A : List Kind) (V : List Val) → AllFit w A V → StepFits w V (pair_change r A) (pair_step r V)
  pair_keeps (i.pair n) (a ∷ A) (x ∷ V) h = combs (n - 1) a A x V h (kinds.comb (n - 1) a A) refl
  pair_keeps (i.pair n) (a ∷ A) [] h = absurd h
  pair_keeps (i.pair n) [] V h = tt
  pair_keeps (i.unpair n) (a ∷ A) (x ∷ V) h = parts_of (n - 1) a A x V h (kinds.parts (n - 1) a) refl
  pair_keeps (i.unpair n) (a ∷ A) [] h = absurd h
  pair_keeps (i.unpair n) [] V h = tt
  pair_keeps i.car (k.pair a b ∷ A) (v.both x y ∷ V) h = (
    (h.0.0, h.1),
    (λ id. let p : pos 0 ≤ℤ amount_in id y = positive id w b y h.0.1 in
        omega (arith, ints, among_append id (tickets x) (tickets y))),
    quiet_burns (flat_map tickets (y ∷ [])) (one_good w b y h.0.1),
  )
  pair_keeps i.car (k.pair a b ∷ A) (x ∷ V) h = absurd h.0
  pair_keeps i.car (k.pair a b ∷ A) [] h = absurd h
  pair_keeps i.cdr (k.pair a b ∷ A) (v.both x y ∷ V) h = (
    (h.0.1, h.1),
    (λ id. let p : pos 0 ≤ℤ amount_in id x = positive id w a x h.0.0 in
        omega (arith, ints, among_append id (tickets x) (tickets y))),
    quiet_burns (flat_map tickets (x ∷ [])) (one_good w a x h.0.0),
  )
  pair_keeps i.cdr (k.pair a b ∷ A) (x ∷ V) h = absurd h.0
  pair_keeps i.cdr (k.pair a b ∷ A) [] h = absurd h
  pair_keeps (i.get_part n) (a ∷ A) (x ∷ V) h = gets n a A x V h (kinds.part n a) refl
  pair_keeps (i.get_part n) (a ∷ A) [] h = absurd h
  pair_keeps (i.get_part n) [] V h = tt
  pair_keeps (i.update_part n) (b ∷ a ∷ A) (y ∷ x ∷ V) h = sets n b a A y x V h (kinds.with_part n b a) refl
  pair_keeps (i.update_part n) (b ∷ a ∷ A) (y ∷ []) h = absurd h.1
  pair_keeps (i.update_part n) (b ∷ a ∷ A) [] h = absurd h
  pair_keeps (i.update_part n) (b ∷ []) V h = tt
  pair_keeps (i.update_part n) [] V h = tt
  pair_keeps _ _ V h = tt

  -- ---- options, unions and lists

  conses : (a b : Kind) (A : List Kind) (x : Val) (xs : Vals) (V : List Val) →
      AllFit w (a ∷ k.list b ∷ A) (x ∷ v.list xs ∷ V) → (q : Bool) → same_kind a b ≡ q →
      StepFits w (x ∷ v.list xs ∷ V) (where_true q (keeps (k.list b ∷ A))) (kept (v.list (more_vals x xs) ∷ V))
  conses a b A x xs V h true e = (
    ((subst (λ c. Fits w c x) (same_kind_true a b e) h.0, h.1.0), h.1.1),
    (λ id. omega (arith, ints, among_append id (tickets x) (all_tickets xs))),
    quiet_none,
  )
  conses a b A x xs V h false e = tt

  pub union_keeps : (r : UnionRow) (A : List Kind) (V : List Val) → AllFit w A V →
      StepFits w V (union_change r A) (union_step r V)
  union_keeps (i.left b) (a ∷ A) (x ∷ V) h = ((h.0, h.1), (λ id. omega (arith, ints)), quiet_none)
  union_keeps (i.left b) (a ∷ A) [] h = absurd h
  union_keeps (i.left b) [] V h = tt
  union_keeps (i.right a) (b ∷ A) (x ∷ V) h = ((h.0, h.1), (λ id. omega (arith, ints)), quiet_none)
  union_keeps (i.right a) (b ∷ A) [] h = absurd h
  union_keeps (i.right a) [] V h = tt
  union_keeps i.some (a ∷ A) (x ∷ V) h = ((h.0, h.1), (λ id. omega (arith, ints)), quiet_none)
  union_keeps i.some (a ∷ A) [] h = absurd h
  union_keeps i.some [] V h = tt
  union_keeps (i.none a) A V h = ((tt, h), (λ id. omega (arith, ints)), quiet_none)
  union_keeps (i.nil a) A V h = ((tt, h), (λ id. omega (arith, ints)), quiet_none)
  union_keeps i.cons (a ∷ k.list b ∷ A) (x ∷ v.list xs ∷ V) h = conses a b A x xs V h (same_kind a b) refl
  union_keeps i.cons (a ∷ k.list b ∷ A) (x ∷ y ∷ V) h = absurd h.1.0
  union_keeps i.cons (a ∷ k.list b ∷ A) (x ∷ []) h = absurd h.1
  union_keeps i.cons (a ∷ k.list b ∷ A) [] h = absurd h
  union_keeps i.cons _ V h = tt
