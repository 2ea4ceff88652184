-- DIP.
use Rattle.std.proofs.Common.{◌≡◌, ℕ, ◌+◌, nat_le, ◌&&◌, pos, negsuc, Bool, true, false, List, [], ◌∷◌, ◌++◌, take, drop, length, Option, refl, sym, ap, ◌∙◌, subst, arith}
use Rattle.std.specs.Prelude.{if◌then◌else◌, Result, Ok, Err}
use Rattle.std.proofs.lemmas.List.{append-nil}
use Rattle.rules_text.specs.nodes.Limits.{count_limit}
use Rattle.rules_text.specs.nodes.Tree.{Tree, int, str, bytes, prim, seq, none, more, size}
use Rattle.rules_data.specs.types.Kind.{Kind}
use Rattle.rules_code.specs.instructions.Arguments.{found, fault, count_argument}
use Rattle.rules_code.specs.instructions.Control.{dip_of}
use Rattle.rules_code.specs.instructions.Context.{Context}
use Rattle.rules_code.specs.instructions.Forms as f
use Rattle.rules_code.specs.typing.Typing.{Typing, bad, shift, under}
use Rattle.rules_code.specs.typing.Typing as typing_of
use Rattle.rules_code.specs.typing.Acts.{dip_type, last_body}
use Rattle.rules_code.specs.typing.Nodes.{bodies, body, tree_type}
use Rattle.rules_code.specs.certificates.Blocks.{block, blocks, last_location, on_found}
use Rattle.rules_code.specs.certificates.Derivation.{Entry, block_entries, of_blocks, tellers}
use Rattle.mich_base.specs.declared.node.Node.{Node}
use Rattle.mich_base.specs.declared.ty.Ty.{Ty}
use Rattle.mich_base.specs.View.{tree, trees}
use Rattle.mich_outline.specs.Answers.{found_from}
use Rattle.mich_instr.specs.Typed.{HasForm}
use Rattle.mich_control.specs.Answers.{typing}
use Rattle.mich_control.specs.Dips.{counted, IsCount, IsDipped}
use Rattle.mich_control.specs.declared.dips.Count.{Count}
use Rattle.mich_control.specs.declared.dips.Count.TheVariants as count
use Rattle.mich_typed.specs.declared.error.CheckError.{CheckError}
use Rattle.mich_typed.specs.declared.made.Body.{Body}
use Rattle.mich_typed.specs.declared.made.Made.{Made}
use Rattle.mich_control.proofs.Forms.{formed}
use Rattle.mich_control.proofs.Read.{read_as}
use Rattle.mich_control.proofs.Shifts.{unshift, body_at, fault_is}
use Rattle.mich_cert.specs.telling.Told.{Adds}
use Rattle.mich_cert.specs.telling.Walk.{FollowsApp, app_entries, after_of}
use Rattle.mich_cert.specs.declared.telling.told.Told.{Told}
use Rattle.mich_cert.proofs.Tellers.{second_told}

-- a count that is read at a location is read where it stands
count_from : (at : ℕ) (t : Tree) → count_argument 0 count_limit (at + 1) t ≡ found_from at (count_argument 0 count_limit 1 t)
count_from at (int (pos n)) = by (nat_le 0 n && nat_le n count_limit)
  where
    by : (b : Bool) → (if b then found n else fault (at + 1)) ≡ found_from at (if b then found n else fault 1)
    by true = refl
    by false = refl
count_from at (int (negsuc n)) = refl
count_from at (str s) = refl
count_from at (bytes b) = refl
count_from at (prim name annots ts) = refl
count_from at (seq ts) = refl

count_read : (at n : ℕ) (t : Tree) → count_argument 0 count_limit (at + 1) t ≡ found n → count_argument 0 count_limit 1 t ≡ found n
count_read at n t h = read_as at (count_argument 0 count_limit 1 t) n (sym (count_from at t) ∙ h)

module _ (at : ℕ) (c : Context) (S : List Kind) (ns : List Node) where
  abbrev read_type : Typing
  read_type = typing_of.on_found (dip_of (trees ns)) (λ n. last_body (bodies (trees ns) 1) (λ b. dip_type n b c S))

  abbrev read_entries : List Entry
  read_entries = of_blocks (tellers (trees ns) (at + 1)) (on_found (dip_of (trees ns)) (λ n. block (last_location (trees ns) 1) c (drop n S) ∷ []))

  -- the body stands so far behind the instruction, and there are its typing and its entries
  record Placed (n : ℕ) (x : Node) (p : ℕ) : Type 0 where
    behind : ℕ
    there : p ≡ at + behind
    typed : read_type ≡ dip_type n (λ c A. body (tree x) behind c A) c S
    told : read_entries ≡ block_entries (tree x) p c (drop n S)

  abbrev of_type : List Node → Typing
  of_type ms = typing_of.on_found (dip_of (trees ms)) (λ n. last_body (bodies (trees ms) 1) (λ b. dip_type n b c S))

  abbrev of_entries : List Node → List Entry
  of_entries ms = of_blocks (tellers (trees ms) (at + 1)) (on_found (dip_of (trees ms)) (λ n. block (last_location (trees ms) 1) c (drop n S) ∷ []))

  placed : (q : Count) (x : Node) (p : ℕ) → IsCount at ns q x p → Placed (counted q) x p
  placed count.One x p h = record {
    behind = 1;
    there = h.1;
    typed = ap of_type h.0;
    told = ap of_entries h.0 ∙ append-nil (block_entries (tree x) (at + 1) c (drop 1 S)) ∙ ap (λ k. block_entries (tree x) k c (drop 1 S)) (sym h.1);
  }
  placed (count.Written n t) x p h =
      let e : at + 1 + size (tree t.now) ≡ at + (1 + size (tree t.now)) = omega arith in
      let g : count_argument 0 count_limit 1 (tree t.now) ≡ found n = count_read at n (tree t.now) h.1 in
      record {
        behind = 1 + size (tree t.now);
        there = h.2 ∙ e;
        typed =
            ap of_type h.0 ∙ ap (λ o. typing_of.on_found o (λ n. dip_type n (λ c A. body (tree x) (1 + size (tree t.now)) c A) c S)) g;
        told =
            ap of_entries h.0
            ∙ ap (λ o. of_blocks (tellers (more (tree t.now) (more (tree x) none)) (at + 1)) (on_found o (λ n. block (1 + size (tree t.now)) c (drop n S) ∷ []))) g
            ∙ ap (λ (X : List Entry). X ++ []) (second_told (tree t.now) (tree x) none (at + 1) c (drop n S))
            ∙ append-nil (block_entries (tree x) (at + 1 + size (tree t.now)) c (drop n S)) ∙ ap (λ k. block_entries (tree x) k c (drop n S)) (sym h.2);
      }

module _ (at : ℕ) (c : Context) (name : List ℕ) (annots : List (List ℕ)) (ns : List Node) (S : List Kind) (form : HasForm f.dip name)
    (q : Count) (x : Node) (p n : ℕ) (there : IsCount at ns q x p) (number : n ≡ counted q)
    (U L : List Kind) (enough : nat_le n (length S) ≡ true) (upper : U ≡ take n S) (lower : L ≡ drop n S) where
  stands : Placed at c S ns n x p
  stands = subst (λ m. Placed at c S ns m x p) (sym number) (placed at c S ns q x p there)

  below : shift at (tree_type (prim name annots (trees ns)) c S) ≡ shift at (under U (body (tree x) stands.behind c L))
  below =
      ap (shift at) (formed f.dip name annots (trees ns) c S form) ∙ ap (shift at) stands.typed
      ∙ ap (λ b. shift at (if b then under (take n S) (body (tree x) stands.behind c (drop n S)) else bad 0)) enough
      ∙ ap (λ A. shift at (under A (body (tree x) stands.behind c (drop n S)))) (sym upper) ∙ ap (λ A. shift at (under U (body (tree x) stands.behind c A))) (sym lower)

  entries_are : app_entries name (trees ns) at c S ≡ block_entries (tree x) p c L
  entries_are =
      ap (λ g. of_blocks (tellers (trees ns) (at + 1)) (blocks g (trees ns) c S)) form ∙ stands.told ∙ ap (block_entries (tree x) p c) (sym lower)

  module _ (o : Option (List Ty)) (h : body (tree x) p c L ≡ typing o) (old new : Told) (told : Adds old new (block_entries (tree x) p c L)) (b : Body) (kept : b.after ≡ o) where
    after_is : shift at (tree_type (prim name annots (trees ns)) c S) ≡ shift at (under U (typing b.after))
    after_is =
        below ∙ ap (λ T. shift at (under U T))
        (unshift at (body (tree x) stands.behind c L) o (body_at at stands.behind (tree x) c L ∙ ap (λ k. body (tree x) k c L) (sym stands.there) ∙ h))
        ∙ ap (λ o. shift at (under U (typing o))) (sym kept)

    pub dip_told : (r : Result Made CheckError) → IsDipped at q U b r → FollowsApp at c name annots (trees ns) S old new (after_of r)
    dip_told (Ok m) d = (after_is ∙ d.0, subst (Adds old new) (sym entries_are) told)
    dip_told (Err e) d = fault_is _ _ e after_is d
