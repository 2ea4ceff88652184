-- The walk over a script is the step of CREATE_CONTRACT.
use Rattle.std.proofs.Common.{◌≡◌, ℕ, ◌+◌, Bool, true, false, ◌&&◌, cond, Option, Some, None, List, [], ◌∷◌, refl, sym, ap, ◌∙◌, subst, arith}
use Rattle.std.specs.Prelude.{option_and_then, slice_get}
use Rattle.std.proofs.lemmas.List.{append-nil}
use Rattle.rules_text.specs.declared.nodes.Primitive.{Primitive}
use Rattle.rules_text.specs.declared.nodes.Primitive.TheVariants as p
use Rattle.rules_text.specs.nodes.Tree.{Tree, int, str, bytes, prim, seq, Trees, none, more, preorder}
use Rattle.rules_data.specs.types.Kind.{Kind}
use Rattle.rules_data.specs.types.Kind as k
use Rattle.rules_code.specs.instructions.Arguments.{Found, found, fault, and_then}
use Rattle.rules_code.specs.instructions.Context.{Context, main, view, lambda}
use Rattle.rules_code.specs.instructions.Same.{same_kind, same_kinds}
use Rattle.rules_code.specs.instructions.Types as t
use Rattle.rules_code.specs.typing.Acts.{one_body, of_script}
use Rattle.rules_code.specs.typing.Nodes.{bodies, found_at, outline, script_in}
use Rattle.rules_code.specs.typing.Scripts.{Script, Outline, TypedView, with_bodies}
use Rattle.rules_code.specs.typing.Sections.{Body}
use Rattle.rules_code.specs.typing.Stacks.{on_origination}
use Rattle.rules_code.specs.typing.Typing.{Typing, Typer, goes, bad}
use Rattle.rules_code.specs.certificates.Blocks.{outline_blocks}
use Rattle.rules_code.specs.certificates.Blocks as blocks_of
use Rattle.rules_code.specs.certificates.Derivation.{Entry, Teller, block_entries, of_blocks, tellers}
use Rattle.mich_base.specs.Counted.{IsNotOne}
use Rattle.mich_base.specs.View.{tree, trees}
use Rattle.mich_base.specs.declared.node.Node.{Node}
use Rattle.mich_cert.specs.Bodiless.{one_known, is_view}
use Rattle.mich_cert.specs.Scripts.{if_found, script_walk, create_walk}
use Rattle.mich_cert.specs.Table as table
use Rattle.mich_cert.specs.Walk.{past, told, leading, inner_by, step_by}
use Rattle.mich_cert.specs.Ways.{way_of}
use Rattle.mich_cert.specs.declared.way.Way.TheVariants as way
use Rattle.mich_cert.specs.declared.words.Word.TheVariants as w
use Rattle.mich_cert.proofs.Branches.{nowhere}
use Rattle.mich_cert.proofs.Loops.{turned}
use Rattle.mich_cert.proofs.Outlines.{was_found, was_fault}
use Rattle.mich_cert.proofs.ScriptWalks.{IsThere, ViewsAreThere, script_is}
use Rattle.mich_cert.proofs.SectionPlaces.{FoundHas, Stands, TypedStand, OutlineStands, outline_stands}
use Rattle.mich_cert.proofs.Spelling.{nil, put, spelled, names_address, names_operation}
use Rattle.mich_cert.proofs.Standing.{body_told}

-- ---- the line

create_fits : (s g : Kind) (A B : List Kind) (q : Bool) → same_kind s g ≡ q →
    table.written p.OpCreateContract (one_known s) (k.option t.key_hash ∷ t.mutez ∷ g ∷ A) B ≡ (q && same_kinds (k.operation ∷ t.address ∷ A) B)
create_fits s g A B true e =
    rw e (spelled (w.Operation ∷ w.Address ∷ []) (record { a = Some g; b = None; c = None }) A (k.operation ∷ t.address ∷ A) (put names_operation (put names_address nil)) B)
create_fits s g A B false e = rw e refl

created_is : (s g : Kind) (A : List Kind) (es : List Entry) →
    option_and_then (λ B. cond (table.written p.OpCreateContract (one_known s) (k.option t.key_hash ∷ t.mutez ∷ g ∷ A) B) (Some es) None) (told es)
    ≡ leading (cond (same_kind s g) (goes (k.operation ∷ t.address ∷ A)) (bad 0)) es
created_is s g A es =
    ap (λ (T : List Kind → Bool). option_and_then (λ B. cond (T B) (Some es) None) (told es)) (λ i B. create_fits s g A B (same_kind s g) refl i)
    ∙ turned (k.operation ∷ t.address ∷ A) es (told es) (same_kind s g) refl

no_created : (es : List Entry) (o : Option (List Kind)) → option_and_then (λ (B : List Kind). cond false (Some es) None) o ≡ None
no_created es None = refl
no_created es (Some B) = refl

none_created : (x : Option (List Entry)) → option_and_then (λ (fs : List Entry). option_and_then (λ (B : List Kind). cond false (Some fs) None) (told fs)) x ≡ None
none_created None = refl
none_created (Some fs) = no_created fs (told fs)

-- ---- where the bodies stand

module _ (us : Trees) (at : ℕ) where
  abbrev T : List Teller
  T = tellers (more (seq us) none) (at + 1)

  there : (b : Body) → Stands (preorder (seq us)) b → IsThere T 1 (at + 1) b
  there b h =
      let e : at + (1 + b.location) ≡ at + 1 + b.location = omega arith in
      record {
        entries = λ c S.
            body_told (more (seq us) none) at (1 + b.location) b.location b.node c S refl (ap (λ xs. slice_get xs b.location) (append-nil (preorder (seq us))) ∙ h.node_there)
            ∙ ap (λ l. block_entries b.node l c S) e;
        typed = h.typed;
      }

  views_there : (vs : List TypedView) → TypedStand (preorder (seq us)) vs → ViewsAreThere T 1 (at + 1) vs
  views_there [] h = tt
  views_there (v ∷ vs) h = (there v.body h.0, views_there vs h.1)

  -- ---- by the outline

  module _ (A : List Kind) (es : List Entry) where
    abbrev by_outline : Found Outline → Option (List Entry)
    by_outline q =
        option_and_then (leading (on_origination A (λ g A. of_script (found_at 1 (and_then q with_bodies)) g A)))
        (past (of_blocks T (blocks_of.on_found q (outline_blocks 1))) es)

  stack_is : (o : Outline) → OutlineStands (preorder (seq us)) o → (A : List Kind) (es : List Entry) → create_walk o at A es ≡ by_outline A es (found o)
  stack_is o h (k.option t.key_hash ∷ t.mutez ∷ g ∷ A) es =
      ap (λ (F : List Entry → Option (List Entry)). option_and_then F (script_walk o (at + 1) es)) (λ i fs. created_is o.storage g A fs i)
      ∙ sym (script_is T 1 (at + 1) (λ q. of_script (found_at 1 q) g A) (λ l x. nowhere (1 + l) x)
      (cond (same_kind o.storage g) (goes (k.operation ∷ t.address ∷ A)) (bad 0)) o (there o.code h.0) (views_there o.views h.1) (λ ws. refl) es)
  stack_is o h A es =
      none_created (script_walk o (at + 1) es) ∙ sym (nowhere 0 (past (of_blocks T (outline_blocks 1 o)) es))

  pub outline_is : (o : Outline) → outline (seq us) ≡ found o → (A : List Kind) (es : List Entry) → create_walk o at A es ≡ by_outline A es (outline (seq us))
  outline_is o e A es =
      stack_is o (subst (FoundHas (OutlineStands (preorder (seq us)))) e (outline_stands us)) A es ∙ sym (ap (by_outline A es) e)

-- ---- steps

of_create : (P : Primitive → Type 0) → P p.OpCreateContract → (op : Primitive) → way_of op ≡ way.Create → P op
of_create P a p.OpCreateContract h = a
of_create P a op h = absurd cc

abbrev of_node : Tree → ℕ → List Kind → List Entry → Option (List Entry)
of_node u at A es =
    option_and_then (leading (on_origination A (λ g A. of_script (script_in (more u none) 1) g A)))
    (past (of_blocks (tellers (more u none) (at + 1)) (blocks_of.script_blocks 1 u)) es)

module _ (op : Primitive) (annots : List (List ℕ)) (at : ℕ) (A : List Kind) (es : List Entry) (h : way_of op ≡ way.Create) where
  abbrev step_on : Context → Trees → Option (List Entry)
  step_on c ts = step_by (Some op) annots ts at c A es

  to_step : (u : Tree) (c : Context) → is_view c ≡ false → of_node u at A es ≡ step_on c (more u none)
  to_step u (main xs) e = of_create (λ op. of_node u at A es ≡ step_by (Some op) annots (more u none) at (main xs) A es) refl op h
  to_step u lambda e = of_create (λ op. of_node u at A es ≡ step_by (Some op) annots (more u none) at lambda A es) refl op h
  to_step u view e = absurd cc

  pub create_step : (us : Trees) (o : Outline) → outline (seq us) ≡ found o → (c : Context) → is_view c ≡ false → create_walk o at A es ≡ step_on c (more (seq us) none)
  create_step us o e c v = outline_is us at o e A es ∙ to_step (seq us) c v

  none_of : (q : Found Script) (l : ℕ) → q ≡ fault l → (x : Option (List Entry)) → None ≡ option_and_then (leading (on_origination A (λ g A. of_script q g A))) x
  none_of q l e x = sym (ap (λ q. option_and_then (leading (on_origination A (λ g A. of_script q g A))) x) e ∙ by A x)
    where
      by : (A : List Kind) (x : Option (List Entry)) → option_and_then (leading (on_origination A (λ g A. of_script (fault l) g A))) x ≡ None
      by (k.option t.key_hash ∷ t.mutez ∷ g ∷ A) x = nowhere l x
      by A x = nowhere 0 x

  -- a node that is no script
  pub no_script : (u : Tree) (l : ℕ) → outline u ≡ fault l → (c : Context) → is_view c ≡ false → None ≡ step_on c (more u none)
  no_script (seq us) l e c v =
      none_of (script_in (more (seq us) none) 1) (1 + l) (ap (λ q. found_at 1 (and_then q with_bodies)) e) (past (of_blocks (tellers (more (seq us) none) (at + 1)) (blocks_of.script_blocks 1 (seq us))) es)
      ∙ to_step (seq us) c v
  no_script (int n) l e c v = none_of (script_in (more (int n) none) 1) 1 refl (past [] es) ∙ to_step (int n) c v
  no_script (str s) l e c v = none_of (script_in (more (str s) none) 1) 1 refl (past [] es) ∙ to_step (str s) c v
  no_script (bytes b) l e c v = none_of (script_in (more (bytes b) none) 1) 1 refl (past [] es) ∙ to_step (bytes b) c v
  no_script (prim name annots ts) l e c v = none_of (script_in (more (prim name annots ts) none) 1) 1 refl (past [] es) ∙ to_step (prim name annots ts) c v

  pub no_view : (ts : Trees) → None ≡ step_on view ts
  no_view ts = of_create (λ op. None ≡ step_by (Some op) annots ts at view A es) (sym (nowhere 0 (past (inner_by (Some p.OpCreateContract) ts at view A) es))) op h

  not_one : (ns : List Node) → IsNotOne ns → (next : Typer → Typing) (o : Option (List Entry)) → None ≡ option_and_then (leading (one_body (bodies (trees ns) 1) next)) o
  not_one [] g next o = sym (nowhere 0 o)
  not_one (n ∷ []) g next o = absurd g
  not_one (n ∷ m ∷ ns) g next o = sym (nowhere 0 o)

  pub no_create : (ns : List Node) → IsNotOne ns → (c : Context) → is_view c ≡ false → None ≡ step_on c (trees ns)
  no_create ns g (main xs) v =
      of_create (λ op. None ≡ step_by (Some op) annots (trees ns) at (main xs) A es)
      (not_one ns g (λ b. on_origination A (λ g A. of_script (script_in (trees ns) 1) g A)) (past (inner_by (Some p.OpCreateContract) (trees ns) at (main xs) A) es)) op h
  no_create ns g lambda v =
      of_create (λ op. None ≡ step_by (Some op) annots (trees ns) at lambda A es)
      (not_one ns g (λ b. on_origination A (λ g A. of_script (script_in (trees ns) 1) g A)) (past (inner_by (Some p.OpCreateContract) (trees ns) at lambda A) es)) op h
  no_create ns g view v = absurd cc

-- ---- by what is found of the node

pub viewed : (c : Context) → is_view c ≡ true → c ≡ view
viewed view e = refl
viewed (main xs) e = absurd cc
viewed lambda e = absurd cc

module _ (op : Primitive) (annots : List (List ℕ)) (at : ℕ) (A : List Kind) (es : List Entry) (h : way_of op ≡ way.Create) where
  pub in_view : (ts : Trees) (c : Context) → is_view c ≡ true → None ≡ step_by (Some op) annots ts at c A es
  in_view ts c v = no_view op annots at A es h ts ∙ ap (λ c. step_by (Some op) annots ts at c A es) (sym (viewed c v))

  by_tree : (t : Tree) (o : Outline) → outline t ≡ found o → (c : Context) → is_view c ≡ false → create_walk o at A es ≡ step_by (Some op) annots (more t none) at c A es
  by_tree (seq us) o e c v = create_step op annots at A es h us o e c v
  by_tree (int n) o e c v = absurd cc
  by_tree (str s) o e c v = absurd cc
  by_tree (bytes b) o e c v = absurd cc
  by_tree (prim name annots ts) o e c v = absurd cc

  pub of_outline : (ns : List Node) (n : Node) → ns ≡ n ∷ [] → (o : Outline) → Some o ≡ if_found (outline (tree n)) → (c : Context) → is_view c ≡ false →
      create_walk o at A es ≡ step_by (Some op) annots (trees ns) at c A es
  of_outline ns n e o f c v =
      by_tree (tree n) o (was_found (outline (tree n)) o f) c v ∙ ap (λ ns. step_by (Some op) annots (trees ns) at c A es) (sym e)

  pub of_none : (ns : List Node) (n : Node) → ns ≡ n ∷ [] → None ≡ if_found (outline (tree n)) → (c : Context) → is_view c ≡ false →
      None ≡ step_by (Some op) annots (trees ns) at c A es
  of_none ns n e f c v =
      let q = was_fault (outline (tree n)) f in
      no_script op annots at A es h (tree n) q.0 q.1 c v ∙ ap (λ ns. step_by (Some op) annots (trees ns) at c A es) (sym e)
