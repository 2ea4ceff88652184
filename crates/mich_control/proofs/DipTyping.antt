-- DIP.
use Rattle.std.proofs.Common.{◌≡◌, ℕ, ◌+◌, nat_le, ◌&&◌, pos, negsuc, Bool, true, false, List, [], ◌∷◌, ◌++◌, take, drop, length, Option, Some, None, refl, sym, ap, ◌∙◌, subst, arith}
use Rattle.std.specs.Prelude.{if◌then◌else◌, Result, Ok, Err}
use Rattle.std.proofs.lemmas.Bool.{leb-true}
use Rattle.rules_text.specs.nodes.Limits.{count_limit}
use Rattle.rules_text.specs.nodes.Tree.{Tree, int, str, bytes, prim, seq, none, more, size, sizes}
use Rattle.rules_data.specs.types.Kind.{Kind}
use Rattle.rules_code.specs.instructions.Arguments.{Found, found, fault, count_argument}
use Rattle.rules_code.specs.instructions.Control.{dip_of}
use Rattle.rules_code.specs.instructions.Context.{Context}
use Rattle.rules_code.specs.instructions.Forms as f
use Rattle.rules_code.specs.typing.Typing.{Typing, goes, fails, bad, shift, under, on_found}
use Rattle.rules_code.specs.typing.Acts.{dip_type, last_body}
use Rattle.rules_code.specs.typing.Nodes.{bodies, body, tree_type}
use Rattle.mich_base.specs.declared.node.Node.{Node}
use Rattle.mich_base.specs.declared.ty.Ty.{Ty}
use Rattle.mich_base.specs.Counted.{IsNotOne, IsNotTwo}
use Rattle.mich_base.specs.View.{tree, trees}
use Rattle.mich_overload.specs.View.{kinds}
use Rattle.mich_outline.specs.Answers.{found_from}
use Rattle.mich_instr.specs.Code.{Code, Codes}
use Rattle.mich_instr.specs.Code as made
use Rattle.mich_instr.specs.View.{code, codes}
use Rattle.mich_instr.specs.Typed.{HasForm, IsCode, AreCode, is_dip, is_dip_by}
use Rattle.mich_typed.specs.declared.error.CheckError.{CheckError}
use Rattle.mich_typed.specs.declared.error.CheckError.TheVariants as error
use Rattle.mich_control.specs.declared.dips.Count.{Count}
use Rattle.mich_control.specs.declared.dips.Count.TheVariants as count
use Rattle.mich_typed.specs.declared.made.Body.{Body}
use Rattle.mich_typed.specs.declared.made.Made.{Made}
use Rattle.mich_control.specs.Answers.{typing, Leads, IsFault, IsFound, IsInstr, inside}
use Rattle.mich_control.specs.Dips.{counted, written, IsCount, IsDipped}
use Rattle.mich_control.proofs.Shifts.{unshift, body_at, fault_is}
use Rattle.mich_control.proofs.Forms.{formed}
use Rattle.mich_control.proofs.Read.{found_typing, read_as}

-- ---- the arguments

misread_at : (at : ℕ) (ns : List Node) → IsNotOne ns → IsNotTwo ns → found_from at (dip_of (trees ns)) ≡ fault (at + 0)
misread_at at [] h k = refl
misread_at at (x ∷ []) h k = absurd h
misread_at at (x ∷ y ∷ []) h k = absurd k
misread_at at (x ∷ y ∷ z ∷ ns) h k = refl

pub misread : (at : ℕ) (ns : List Node) → IsNotOne ns → IsNotTwo ns → found_from at (dip_of (trees ns)) ≡ fault at
misread at ns h k =
    let z : at + 0 ≡ at = omega arith in
    misread_at at ns h k ∙ ap fault z

count_from : (at least most place : ℕ) (t : Tree) → count_argument least most (at + place) t ≡ found_from at (count_argument least most place t)
count_from at least most place (int (pos n)) = by (nat_le least n && nat_le n most)
  where
    by : (b : Bool) → (if b then found n else fault (at + place)) ≡ found_from at (if b then found n else fault place)
    by true = refl
    by false = refl
count_from at least most place (int (negsuc n)) = refl
count_from at least most place (str s) = refl
count_from at least most place (bytes b) = refl
count_from at least most place (prim name annots ts) = refl
count_from at least most place (seq ts) = refl

pub uncounted : (at : ℕ) (ns : List Node) (x y : Node) (e : CheckError) → ns ≡ x ∷ y ∷ [] → IsFound (λ (n : ℕ). n) (count_argument 0 count_limit (at + 1) (tree x)) (Err e) →
    IsFound (λ (n : ℕ). n) (found_from at (dip_of (trees ns))) (Err e)
uncounted at ns x y e q h =
    subst (λ (o : Found ℕ). IsFound (λ (n : ℕ). n) o (Err e)) (count_from at 0 count_limit 1 (tree x) ∙ ap (λ ms. found_from at (dip_of (trees ms))) (sym q)) h

pub room_of_one : (at : ℕ) (ns : List Node) (x : Node) → ns ≡ x ∷ [] → at + 1 + size (tree x) ≡ at + 1 + sizes (trees ns)
room_of_one at ns x e =
    let z : sizes (trees ns) ≡ size (tree x) + 0 = ap (λ ms. sizes (trees ms)) e in
    omega (arith, z)

pub room_of_two : (at p : ℕ) (ns : List Node) (x y : Node) → ns ≡ x ∷ y ∷ [] → p ≡ at + 1 + size (tree x) → p + size (tree y) ≡ at + 1 + sizes (trees ns)
room_of_two at p ns x y e f =
    let z : sizes (trees ns) ≡ size (tree x) + (size (tree y) + 0) = ap (λ ms. sizes (trees ms)) e in
    omega (arith, z, f)

-- ---- the typing of the body where it stands

module _ (at : ℕ) (c : Context) (S : List Kind) (ns : List Node) where
  abbrev read_type : Typing
  read_type = on_found (dip_of (trees ns)) (λ n. last_body (bodies (trees ns) 1) (λ b. dip_type n b c S))

  -- the body stands so far behind the instruction
  abbrev Placed : ℕ → Node → ℕ → Type 0
  Placed n x p = (k : ℕ) × (p ≡ at + k) × (read_type ≡ dip_type n (λ c A. body (tree x) k c A) c S)

  placed : (q : Count) (x : Node) (p : ℕ) → IsCount at ns q x p → Placed (counted q) x p
  placed count.One x p h = (1, h.1, ap (λ ms. on_found (dip_of (trees ms)) (λ n. last_body (bodies (trees ms) 1) (λ b. dip_type n b c S))) h.0)
  placed (count.Written n t) x p h =
      let e : at + 1 + size (tree t.now) ≡ at + (1 + size (tree t.now)) = omega arith in
      let g : count_argument 0 count_limit 1 (tree t.now) ≡ found n =
      read_as at (count_argument 0 count_limit 1 (tree t.now)) n (sym (count_from at 0 count_limit 1 (tree t.now)) ∙ h.1) in (
        1 + size (tree t.now),
        h.2 ∙ e,
        ap (λ ms. on_found (dip_of (trees ms)) (λ n. last_body (bodies (trees ms) 1) (λ b. dip_type n b c S))) h.0
            ∙ ap (λ o. on_found o (λ n. dip_type n (λ c A. body (tree x) (1 + size (tree t.now)) c A) c S)) g,
      )

under_fault : (at : ℕ) (U : List Kind) (T : Typing) (z : CheckError) → IsFault (shift at T) z → IsFault (shift at (under U T)) z
under_fault at U (goes B) (error.IllTyped l) h = absurd cc
under_fault at U fails (error.IllTyped l) h = absurd cc
under_fault at U (bad m) (error.IllTyped l) h = h
under_fault at U T error.Memory h = tt

-- ---- the typed code

module _ (at : ℕ) (c : Context) (name : List ℕ) (annots : List (List ℕ)) (ns : List Node) (S : List Kind) (form : HasForm f.dip name) where
  typed : (q : Count) (x : Node) (p : ℕ) (is : Codes) (C : List Kind) → IsCount at ns q x p → nat_le (counted q) (length S) ≡ true →
      tree x ≡ seq (inside (tree x)) → AreCode c (inside (tree x)) is (drop (counted q) S) C →
      IsCode c (prim name annots (trees ns)) (made.dip (counted q) (written q) is) S (take (counted q) S ++ C)
  typed count.One x p is C h e t k =
      subst (λ ts. IsCode c (prim name annots ts) (made.dip 1 none is) S (take 1 S ++ C)) (ap (λ u. more u none) (sym t) ∙ ap trees (sym h.0))
      (is_dip form (leb-true 1 (length S) e) k)
  typed (count.Written n w) x p is C h e t k =
      let g : count_argument 0 count_limit 1 (tree w.now) ≡ found n =
      read_as at (count_argument 0 count_limit 1 (tree w.now)) n (sym (count_from at 0 count_limit 1 (tree w.now)) ∙ h.1) in
      subst (λ ts. IsCode c (prim name annots ts) (made.dip n (more (tree w.now) none) is) S (take n S ++ C))
      (ap (λ u. more (tree w.now) (more u none)) (sym t) ∙ ap trees (sym h.0))
      (is_dip_by form g (leb-true n (length S) e) k)

  -- ---- the whole instruction

  whole : shift at (tree_type (prim name annots (trees ns)) c S) ≡ shift at (read_type at c S ns)
  whole = ap (shift at) (formed f.dip name annots (trees ns) c S form)

  pub dip_read : (z : CheckError) → IsFound (λ (n : ℕ). n) (found_from at (dip_of (trees ns))) (Err z) → IsFault (shift at (tree_type (prim name annots (trees ns)) c S)) z
  dip_read z h = fault_is _ _ z whole (found_typing (λ (n : ℕ). n) at (dip_of (trees ns)) (λ n. last_body (bodies (trees ns) 1) (λ b. dip_type n b c S)) z h)

  module _ (q : Count) (x : Node) (p n : ℕ) (there : IsCount at ns q x p) (number : n ≡ counted q) where
    stands : Placed at c S ns n x p
    stands = subst (λ m. Placed at c S ns m x p) (sym number) (placed at c S ns q x p there)

    tried : shift at (tree_type (prim name annots (trees ns)) c S)
        ≡ shift at (if nat_le n (length S) then under (take n S) (body (tree x) stands.0 c (drop n S)) else bad 0)
    tried = whole ∙ ap (shift at) stands.2

    module _ (U L : List Kind) (enough : nat_le n (length S) ≡ true) (upper : U ≡ take n S) (lower : L ≡ drop n S) where
      below : shift at (tree_type (prim name annots (trees ns)) c S) ≡ shift at (under U (body (tree x) stands.0 c L))
      below =
          tried ∙ ap (λ b. shift at (if b then under (take n S) (body (tree x) stands.0 c (drop n S)) else bad 0)) enough
          ∙ ap (λ A. shift at (under A (body (tree x) stands.0 c (drop n S)))) (sym upper) ∙ ap (λ A. shift at (under U (body (tree x) stands.0 c A))) (sym lower)

      body_there : shift at (body (tree x) stands.0 c L) ≡ body (tree x) p c L
      body_there = body_at at stands.0 (tree x) c L ∙ ap (λ k. body (tree x) k c L) (sym stands.1)

      pub dip_body : (z : CheckError) → IsFault (body (tree x) p c L) z → IsFault (shift at (tree_type (prim name annots (trees ns)) c S)) z
      dip_body z h = fault_is _ _ z below (under_fault at U (body (tree x) stands.0 c L) z (fault_is _ _ z body_there h))

      module _ (b : Body) (t : tree x ≡ seq (inside (tree x))) (h : body (tree x) p c L ≡ typing b.after) (k : Leads (λ B. AreCode c (inside (tree x)) (codes b.code) L B) b.after) where
        after : shift at (tree_type (prim name annots (trees ns)) c S) ≡ shift at (under U (typing b.after))
        after = below ∙ ap (λ T. shift at (under U T)) (unshift at (body (tree x) stands.0 c L) b.after (body_there ∙ h))

        good : (o r : Option (List Ty)) (i : Code) → shift at (under U (typing o)) ≡ typing r → Leads (λ B. AreCode c (inside (tree x)) (codes b.code) L B) o →
            i ≡ made.dip (counted q) (written q) (codes b.code) → Leads (λ B. IsCode c (prim name annots (trees ns)) i S B) r
        good (Some ls) (Some vs) i e l m =
            let same : take n S ++ kinds ls ≡ kinds vs = ap (λ A. A ++ kinds ls) (sym upper) ∙ cc in
            subst (λ j. IsCode c (prim name annots (trees ns)) j S (kinds vs)) (sym m)
            (subst (λ B. IsCode c (prim name annots (trees ns)) (made.dip (counted q) (written q) (codes b.code)) S B) same
            (subst (λ y. IsCode c (prim name annots (trees ns)) (made.dip (counted q) (written q) (codes b.code)) S (take y S ++ kinds ls)) (sym number)
            (typed q x p (codes b.code) (kinds ls) there (subst (λ y. nat_le y (length S) ≡ true) number enough) t
            (subst (λ A. AreCode c (inside (tree x)) (codes b.code) A (kinds ls)) (lower ∙ ap (λ y. drop y S) number) l))))
        good (Some ls) None i e l m = absurd cc
        good None (Some vs) i e l m = absurd cc
        good None None i e l m = absurd cc

        pub dip_made : (r : Result Made CheckError) → IsDipped at q U b r →
            IsInstr c (prim name annots (trees ns)) S (shift at (tree_type (prim name annots (trees ns)) c S)) r
        dip_made (Ok m) d = (after ∙ d.0, good b.after m.after (code m.instr) d.0 k d.1)
        dip_made (Err e) d = fault_is _ _ e after d
