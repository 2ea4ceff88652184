-- PUSH, and the bodies in literals.
use Rattle.std.proofs.Common.{◌≡◌, ℕ, zero, suc, ◌+◌, ◌^◌, ◌<◌, ◌≤◌, Bool, true, false, List, [], ◌∷◌, ◌++◌, drop, length, get_or, ◌⊎◌, inl, inr, Option, Some, None, refl, sym, ap, ◌∙◌, subst, arith, drop-cons, add-one}
use Rattle.std.specs.Prelude.{if◌then◌else◌, slice_get, Result, Err}
use Rattle.std.proofs.lemmas.List.{drop_all}
use Rattle.rules_text.specs.nodes.Tree.{Tree, int, str, bytes, prim, seq, Trees, none, more, size, sizes, preorder, preorders}
use Rattle.rules_data.specs.types.Kind.{Kind}
use Rattle.rules_data.specs.types.Attributes.{pushable}
use Rattle.rules_data.specs.values.Val.{Val}
use Rattle.rules_data.specs.values.Literals.{Pending, body, claim, good, bad, read}
use Rattle.rules_code.specs.instructions.Arguments.{Found, found, fault, and_then, type_argument}
use Rattle.rules_code.specs.instructions.Control.{Pushed, push_of, call_kinds}
use Rattle.rules_code.specs.instructions.Context.{Context, lambda}
use Rattle.rules_code.specs.instructions.Forms as f
use Rattle.rules_code.specs.instructions.Same.{same_kinds}
use Rattle.rules_code.specs.typing.Typing.{Typing, goes, fails, shift, on_found}
use Rattle.rules_code.specs.typing.Typing as ty
use Rattle.rules_code.specs.typing.Bodies.{body_fault, first_fault}
use Rattle.rules_code.specs.typing.Nodes.{tree_type}
use Rattle.rules_code.specs.typing.Literals.{fault_of_bodies, checked, of_reading}
use Rattle.laws_typing.specs.literals.Laws.{AllStandIn, AllAtMost}
use Rattle.laws_typing.proofs.literals_lemmas.ForCallers.{size_is, bodies_stand, bodies_within, all_pushed}
use Rattle.mich_base.specs.declared.node.Node.{Node}
use Rattle.mich_base.specs.declared.ty.Ty.{Ty}
use Rattle.mich_base.specs.Counted.{IsNotTwo}
use Rattle.mich_base.specs.TypeView.{kind}
use Rattle.mich_base.specs.View.{tree, trees}
use Rattle.mich_data.specs.View.{pending, all_pending}
use Rattle.mich_data.specs.declared.pending.Pending.{Pending as Item}
use Rattle.mich_overload.specs.View.{kinds}
use Rattle.mich_outline.proofs.ForCallers.{argument_from}
use Rattle.mich_instr.specs.Plain.{bare}
use Rattle.mich_instr.specs.Code.{Code, Codes}
use Rattle.mich_instr.specs.Code as made
use Rattle.mich_instr.specs.Typed.{HasForm, IsCode, AreHeld, is_push}
use Rattle.mich_typed.specs.declared.error.CheckError.{CheckError}
use Rattle.mich_typed.specs.declared.error.CheckError.TheVariants as error
use Rattle.mich_control.specs.Answers.{typing, Leads, ends_in, IsFault, IsFound}
use Rattle.mich_check.specs.Pending.{AreSequences, reach, largest, moved, IsFaulty, called_fault, item_fault, IsRead}
use Rattle.mich_control.proofs.ForCallers.{unshift, fault_is, formed, found_typing, read_as}
use Rattle.mich_check.proofs.Within.{fault_within}
use Rattle.mich_check.proofs.Sequences.{read_sequences}

-- ---- where bodies stand

pub split : (xs ys : List Tree) (i : ℕ) (u : Tree) → slice_get (xs ++ ys) i ≡ Some u →
    (slice_get xs i ≡ Some u) ⊎ ((j : ℕ) × (i ≡ length xs + j) × (slice_get ys j ≡ Some u))
split [] ys i u h = inr (i, omega arith, h)
split (x ∷ xs) ys zero u h = inl h
split (x ∷ xs) ys (suc i) u h = elim (split xs ys i u h) [
  | inl e ↦ inl e
  | inr g ↦ inr (g.0, (let k = g.1 in omega (arith, k)), g.2)
]

one : (t u : Tree) → Some t ≡ Some u → size u ≤ size t
one t u h = let e : t ≡ u = cc in rw e (omega arith)

mutual
  -- a node ends within the nodes that it stands among
  pub ends_within : (t : Tree) (i : ℕ) (u : Tree) → slice_get (preorder t) i ≡ Some u → i + size u ≤ size t
  ends_within t zero u h = by t h
    where
      by : (t : Tree) → slice_get (preorder t) zero ≡ Some u → zero + size u ≤ size t
      by (int n) h = let e = one (int n) u h in omega (arith, e)
      by (str s) h = let e = one (str s) u h in omega (arith, e)
      by (bytes b) h = let e = one (bytes b) u h in omega (arith, e)
      by (prim name annots ts) h = let e = one (prim name annots ts) u h in omega (arith, e)
      by (seq ts) h = let e = one (seq ts) u h in omega (arith, e)
  ends_within (prim name annots ts) (suc i) u h = let e = all_within ts i u h in omega (arith, e)
  ends_within (seq ts) (suc i) u h = let e = all_within ts i u h in omega (arith, e)
  ends_within (int n) (suc i) u h = absurd cc
  ends_within (str s) (suc i) u h = absurd cc
  ends_within (bytes b) (suc i) u h = absurd cc

  all_within : (ts : Trees) (i : ℕ) (u : Tree) → slice_get (preorders ts) i ≡ Some u → i + size u ≤ sizes ts
  all_within none i u h = absurd cc
  all_within (more t ts) i u h = elim (split (preorder t) (preorders ts) i u h) [
    | inl f ↦ (let e = ends_within t i u f in omega (arith, e))
    | inr g ↦ (let e = all_within ts g.0 u g.2 in let k = g.1 in let s = size_is t in omega (arith, e, k, s))
  ]

reach_in : (at : ℕ) (t : Tree) (ps : List Pending) → AllStandIn at (preorder t) ps → reach ps ≤ at + size t
reach_in at t [] h = omega arith
reach_in at t (body l a r recursive u ∷ ps) h =
    let e = ends_within t h.0.0 u h.0.2 in
    let k = h.0.1 in
    let g = reach_in at t ps h.1 in
    omega (arith, e, k, g)
reach_in at t (claim l b a ∷ ps) h = reach_in at t ps h.1

pub reach_within : (a : Kind) (at : ℕ) (t : Tree) (x : Val) (ps : List Pending) → read a at t ≡ good x ps → reach ps ≤ at + size t
reach_within a at t x ps e = reach_in at t ps (bodies_stand a at t x ps e)

largest_in : (n : ℕ) (ps : List Pending) → AllAtMost n ps → largest ps ≤ n
largest_in n [] h = omega arith
largest_in n (body l a r recursive t ∷ ps) h = let e = h.0 in let g = largest_in n ps h.1 in omega (arith, e, g)
largest_in n (claim l b a ∷ ps) h = largest_in n ps h

pub largest_within : (a : Kind) (at : ℕ) (t : Tree) (x : Val) (ps : List Pending) → read a at t ≡ good x ps → largest ps ≤ size t
largest_within a at t x ps e = largest_in (size t) ps (bodies_within a at t x ps e)

pub fault_before : (a : Kind) (at place l : ℕ) (t : Tree) → at + (place + size t) < 2 ^ 32 → read a place t ≡ bad l → at + l < 2 ^ 32
fault_before a at place l t room e = let h = fault_within a place l t e in omega (arith, h, room)

-- ---- a body as that of a lambda

called_from : (at l : ℕ) (a r : Kind) (recursive : Bool) (u : Tree) → called_fault (at + l) a r recursive u ≡ moved at (called_fault l a r recursive u)
called_from at l a r recursive u = by (tree_type u lambda (call_kinds a r recursive))
  where
    by : (T : Typing) → body_fault (at + l) (shift (at + l) T) r ≡ moved at (body_fault l (shift l T) r)
    by (goes B) = tested (same_kinds B (r ∷ []))
      where
        tested : (b : Bool) → (if b then None else Some (at + l)) ≡ moved at (if b then None else Some l)
        tested true = refl
        tested false = refl
    by fails = refl
    by (ty.bad m) =
        let e : at + l + m ≡ at + (l + m) = omega arith in
        ap Some e

pub called_item : {T : Type 0} (at l : ℕ) (a r : Kind) (recursive : Bool) (u : Tree) (z : Result T CheckError) → IsFaulty (called_fault (at + l) a r recursive u) z →
    IsFaulty (moved at (called_fault l a r recursive u)) z
called_item at l a r recursive u z h = subst (λ o. IsFaulty o z) (called_from at l a r recursive u) h

module _ (at : ℕ) (a r : Kind) (recursive : Bool) (u : Tree) (S C : List Kind) (o : Option (List Ty)) (s : S ≡ call_kinds a r recursive)
    (h : shift at (tree_type u lambda S) ≡ typing o) (e : C ≡ r ∷ []) where
  called_is : called_fault at a r recursive u ≡ (if ends_in o C then None else Some at)
  called_is =
      ap (λ T. body_fault at T r) (ap (λ A. shift at (tree_type u lambda A)) (sym s) ∙ h) ∙ by o ∙ ap (λ D. if ends_in o D then None else Some at) (sym e)
    where
      by : (o : Option (List Ty)) → body_fault at (typing o) r ≡ (if ends_in o (r ∷ []) then None else Some at)
      by (Some ts) = refl
      by None = refl

-- ---- one after another

faults_more : (p : Pending) (ps : List Pending) → fault_of_bodies (p ∷ ps) ≡ first_fault (item_fault p) (fault_of_bodies ps)
faults_more (body l a r recursive u) ps = refl
faults_more (claim l b a) ps = refl

reach_more : (p : Pending) (ps : List Pending) → reach ps ≤ reach (p ∷ ps)
reach_more (body l a r recursive u) ps = omega arith
reach_more (claim l b a) ps = omega arith

reach_first : (p : Pending) (ps : List Pending) → reach (p ∷ []) ≤ reach (p ∷ ps)
reach_first (body l a r recursive u) ps = omega arith
reach_first (claim l b a) ps = omega arith

largest_more : (p : Pending) (ps : List Pending) → largest ps ≤ largest (p ∷ ps)
largest_more (body l a r recursive u) ps = omega arith
largest_more (claim l b a) ps = omega arith

largest_first : (p : Pending) (ps : List Pending) → largest (p ∷ []) ≤ largest (p ∷ ps)
largest_first (body l a r recursive u) ps = omega arith
largest_first (claim l b a) ps = omega arith

pub no_move : (at : ℕ) (o : Option ℕ) → moved at o ≡ None → o ≡ None
no_move at None h = refl
no_move at (Some m) h = absurd cc

first_bad : (at : ℕ) (o p : Option ℕ) (whole : Option ℕ) (e : CheckError) → whole ≡ moved at (first_fault o p) → IsFaulty {T = Unit {0}} (moved at o) (Err e) → IsFaulty {T = Unit {0}} whole (Err e)
first_bad at (Some m) p whole (error.IllTyped l) w h = w ∙ h
first_bad at None p whole (error.IllTyped l) w h = absurd cc
first_bad at o p whole error.Memory w h = tt

module _ (ps : List Item) (i : ℕ) (p : Item) (h : i < length ps) (e : p ≡ get_or ps i p) where
  pub items_at : all_pending (drop i ps) ≡ pending p ∷ all_pending (drop (i + 1) ps)
  items_at =
      ap all_pending (drop-cons ps i p h) ∙ ap (λ x. pending x ∷ all_pending (drop (suc i) ps)) (sym e)
      ∙ ap (λ k. pending p ∷ all_pending (drop k ps)) (sym (add-one i))

  pub items_room : (n : ℕ) → reach (all_pending (drop i ps)) ≤ n → (reach (pending p ∷ []) ≤ n) × (reach (all_pending (drop (i + 1) ps)) ≤ n)
  items_room n r =
      let k : reach (pending p ∷ all_pending (drop (i + 1) ps)) ≤ n = subst (λ xs. reach xs ≤ n) items_at r in
      let f = reach_first (pending p) (all_pending (drop (i + 1) ps)) in
      let g = reach_more (pending p) (all_pending (drop (i + 1) ps)) in
      (omega (arith, k, f), omega (arith, k, g))

  pub items_size : (n : ℕ) → largest (all_pending (drop i ps)) ≤ n → (largest (pending p ∷ []) ≤ n) × (largest (all_pending (drop (i + 1) ps)) ≤ n)
  items_size n r =
      let k : largest (pending p ∷ all_pending (drop (i + 1) ps)) ≤ n = subst (λ xs. largest xs ≤ n) items_at r in
      let f = largest_first (pending p) (all_pending (drop (i + 1) ps)) in
      let g = largest_more (pending p) (all_pending (drop (i + 1) ps)) in
      (omega (arith, k, f), omega (arith, k, g))

  next_is : (at : ℕ) (whole : Option ℕ) → whole ≡ moved at (fault_of_bodies (all_pending (drop i ps))) →
      whole ≡ moved at (first_fault (item_fault (pending p)) (fault_of_bodies (all_pending (drop (i + 1) ps))))
  next_is at whole w = w ∙ ap (λ xs. moved at (fault_of_bodies xs)) items_at ∙ ap (moved at) (faults_more (pending p) (all_pending (drop (i + 1) ps)))

  pub items_fault : (at : ℕ) (whole : Option ℕ) (z : CheckError) → whole ≡ moved at (fault_of_bodies (all_pending (drop i ps))) →
      IsFaulty {T = Unit {0}} (moved at (item_fault (pending p))) (Err z) → IsFaulty {T = Unit {0}} whole (Err z)
  items_fault at whole z w k = first_bad at (item_fault (pending p)) (fault_of_bodies (all_pending (drop (i + 1) ps))) whole z (next_is at whole w) k

  pub items_step : (at : ℕ) (whole : Option ℕ) → whole ≡ moved at (fault_of_bodies (all_pending (drop i ps))) → moved at (item_fault (pending p)) ≡ None →
      whole ≡ moved at (fault_of_bodies (all_pending (drop (i + 1) ps)))
  items_step at whole w k =
      next_is at whole w ∙ ap (λ o. moved at (first_fault o (fault_of_bodies (all_pending (drop (i + 1) ps))))) (no_move at (item_fault (pending p)) k)

pub items_end : (ps : List Item) (i at : ℕ) (whole : Option ℕ) → length ps ≤ i → whole ≡ moved at (fault_of_bodies (all_pending (drop i ps))) → whole ≡ None
items_end ps i at whole h w = w ∙ ap (λ xs. moved at (fault_of_bodies (all_pending xs))) (drop_all i ps h)

-- ---- PUSH

tried : (at : ℕ) (a : Kind) (A : List Kind) (x : Val) (o : Option ℕ) (ps : List Pending) (e : CheckError) → IsFaulty {T = Unit {0}} (moved at o) (Err e) →
    IsFault (shift at (on_found (checked x ps o) (λ y. goes (a ∷ A)))) e
tried at a A x (Some m) ps (error.IllTyped l) h = let k : at + m ≡ l = cc in ap ty.bad k
tried at a A x None ps (error.IllTyped l) h = absurd cc
tried at a A x o ps error.Memory h = tt

module _ (at : ℕ) (c : Context) (name : List ℕ) (annots : List (List ℕ)) (ns : List Node) (S : List Kind) (form : HasForm f.push name) where
  abbrev after : Found Pushed → Typing
  after q = on_found q (λ p. on_found (of_reading (read p.kind p.location p.literal)) (λ x. goes (p.kind ∷ S)))

  whole : shift at (tree_type (prim name annots (trees ns)) c S) ≡ shift at (after (push_of (trees ns)))
  whole = ap (shift at) (formed f.push name annots (trees ns) c S form ∙ all_pushed (trees ns) S)

  not_two : (ms : List Node) → IsNotTwo ms → after (push_of (trees ms)) ≡ ty.bad 0
  not_two [] h = refl
  not_two (x ∷ []) h = refl
  not_two (x ∷ y ∷ []) h = absurd h
  not_two (x ∷ y ∷ z ∷ ms) h = refl

  module _ (v w : Node) (two : ns ≡ v ∷ w ∷ []) where
    abbrev pushed : Kind → Pushed
    pushed a = record { kind = a; location = 1 + size (tree v); literal = tree w }

    spelled : shift at (tree_type (prim name annots (trees ns)) c S) ≡ shift at (after (and_then (type_argument pushable 1 (tree v)) (λ a. found (pushed a))))
    spelled = whole ∙ ap (λ ms. shift at (after (push_of (trees ms)))) two

    pub push_type : (e : CheckError) → IsFound kind (type_argument pushable (at + 1) (tree v)) (Err e) → IsFault (shift at (tree_type (prim name annots (trees ns)) c S)) e
    push_type e h = fault_is _ _ e (spelled ∙ ap (shift at) (by (type_argument pushable 1 (tree v))))
        (found_typing kind at (type_argument pushable 1 (tree v)) (λ a. after (found (pushed a))) e
        (subst (λ (o : Found Kind). IsFound kind o (Err e)) (argument_from at 1 pushable (tree v)) h))
      where
        by : (o : Found Kind) → after (and_then o (λ a. found (pushed a))) ≡ on_found o (λ a. after (found (pushed a)))
        by (found a) = refl
        by (fault l) = refl

    module _ (a : Kind) (q : ℕ) (of : type_argument pushable (at + 1) (tree v) ≡ found a) (there : q ≡ 1 + size (tree v)) where
      is_type : type_argument pushable 1 (tree v) ≡ found a
      is_type = read_as at (type_argument pushable 1 (tree v)) a (sym (argument_from at 1 pushable (tree v)) ∙ of)

      literal : shift at (tree_type (prim name annots (trees ns)) c S) ≡ shift at (on_found (of_reading (read a q (tree w))) (λ x. goes (a ∷ S)))
      literal =
          spelled ∙ ap (λ o. shift at (after (and_then o (λ a. found (pushed a))))) is_type
          ∙ ap (λ n. shift at (on_found (of_reading (read a n (tree w))) (λ x. goes (a ∷ S)))) (sym there)

      pub push_literal : (e : CheckError) → IsRead at (read a q (tree w)) (Err e) → IsFault (shift at (tree_type (prim name annots (trees ns)) c S)) e
      push_literal (error.IllTyped l) h =
          literal ∙ ap (λ o. shift at (on_found (of_reading o) (λ x. goes (a ∷ S)))) h.1 ∙ ap ty.bad (sym h.2)
      push_literal error.Memory h = tt

      module _ (x : Val) (ps : List Pending) (reads : read a q (tree w) ≡ good x ps) where
        tries : shift at (tree_type (prim name annots (trees ns)) c S) ≡ shift at (on_found (checked x ps (fault_of_bodies ps)) (λ y. goes (a ∷ S)))
        tries = literal ∙ ap (λ o. shift at (on_found (of_reading o) (λ x. goes (a ∷ S)))) reads

        pub push_body : (e : CheckError) → IsFaulty {T = Unit {0}} (moved at (fault_of_bodies ps)) (Err e) → IsFault (shift at (tree_type (prim name annots (trees ns)) c S)) e
        push_body e h = fault_is _ _ e tries (tried at a S x (fault_of_bodies ps) ps e h)

        lead : (P : List Kind → Type 0) (o : Option (List Ty)) (B : List Kind) → typing o ≡ goes B → P B → Leads P o
        lead P (Some ts) B e h =
            let k : B ≡ kinds ts = cc in
            subst P k h
        lead P None B e h = absurd cc

        pub push_goes : (o : Option (List Ty)) → moved at (fault_of_bodies ps) ≡ None → typing o ≡ goes (a ∷ S) → shift at (tree_type (prim name annots (trees ns)) c S) ≡ typing o
        push_goes o h g = tries ∙ ap (λ z. shift at (on_found (checked x ps z) (λ y. goes (a ∷ S)))) (no_move at (fault_of_bodies ps) h) ∙ sym g

        pub push_made : (o : Option (List Ty)) (j : Code) (is : Codes) → moved at (fault_of_bodies ps) ≡ None → typing o ≡ goes (a ∷ S) →
            j ≡ made.push a (bare (tree v)) (tree w) is → (AreSequences ps → AreHeld ps is) →
            (shift at (tree_type (prim name annots (trees ns)) c S) ≡ typing o) × Leads (λ B. IsCode c (prim name annots (trees ns)) j S B) o
        push_made o j is h g m held =
            let k = push_goes o h g in
            let n : tree_type (prim name annots (more (tree v) (more (tree w) none))) c S ≡ goes (a ∷ S) =
            ap (λ ms. tree_type (prim name annots (trees ms)) c S) (sym two) ∙ unshift at (tree_type (prim name annots (trees ns)) c S) o k ∙ g in (
              k,
              lead (λ B. IsCode c (prim name annots (trees ns)) j S B) o (a ∷ S) g
                  (subst (λ ms. IsCode c (prim name annots (trees ms)) j S (a ∷ S)) (sym two)
                  (subst (λ y. IsCode c (prim name annots (more (tree v) (more (tree w) none))) y S (a ∷ S)) (sym m)
                  (is_push form (ap (λ (y : Found Kind). and_then y (λ a. found (pushed a))) is_type) n (subst (λ n. read a n (tree w) ≡ good x ps) there reads) (held (read_sequences a q (tree w) x ps reads))))),
            )
