-- The walk over a script is the typing and the derivation of it.
use Rattle.std.proofs.Common.{◌≡◌, ℕ, ◌+◌, ◌-◌, Bool, true, false, ◌&&◌, cond, Option, Some, None, List, [], ◌∷◌, refl, sym, ap, ◌∙◌}
use Rattle.std.specs.Prelude.{option_and_then, slice_get}
use Rattle.rules_data.specs.types.Kind.{Kind}
use Rattle.rules_data.specs.types.Kind as k
use Rattle.rules_code.specs.instructions.Arguments.{Found, found, fault, and_then}
use Rattle.rules_code.specs.instructions.Context.{Context, main, view}
use Rattle.rules_code.specs.instructions.Same.{same_kinds}
use Rattle.rules_code.specs.typing.Bodies.{body_fault}
use Rattle.rules_code.specs.typing.Nodes as nodes
use Rattle.rules_code.specs.typing.Scripts.{Script, View, Outline, TypedView, unless_fault, is_small, fault_of_body, view_fault, a_view, with_views, a_script, with_bodies}
use Rattle.rules_code.specs.typing.Sections.{Body}
use Rattle.rules_code.specs.typing.Typing.{Typing, goes, fails}
use Rattle.rules_code.specs.typing.Typing as typing
use Rattle.rules_code.specs.certificates.Blocks.{view_blocks, outline_blocks}
use Rattle.rules_code.specs.certificates.Derivation.{Entry, Teller, block_entries, of_blocks, told_by}
use Rattle.mich_cert.specs.Bodiless.{one_known}
use Rattle.mich_cert.specs.Scripts.{script_begins, code_ends, view_ends, views_walk, script_walk}
use Rattle.mich_cert.specs.Walk.{past, ended, body_of, leading, arrow}
use Rattle.mich_cert.specs.declared.words.Word.TheVariants as w
use Rattle.mich_cert.proofs.Loops.{ends_with}
use Rattle.mich_cert.proofs.Pushes.{ends_call, called_by, begun}
use Rattle.mich_cert.proofs.SameTypes.{same_kinds_symm}
use Rattle.mich_cert.proofs.Spelling.{nil, put, spelled, names_a, names_b, names_list, names_operation, names_pair}
use Rattle.mich_cert.proofs.Walk.{past_append, body_from}

-- ---- the tests

begins_are : (a s : Kind) (B : List Kind) → script_begins a s B ≡ same_kinds (k.pair a s ∷ []) B
begins_are a s B = spelled (w.Pair ∷ w.A ∷ w.B ∷ []) (arrow a s) [] (k.pair a s ∷ []) (put (names_pair names_a names_b) nil) B

code_ends_are : (a s : Kind) (o : Option (List Kind)) → code_ends a s o ≡ ends_with (k.pair (k.list k.operation) s ∷ []) o
code_ends_are a s None = refl
code_ends_are a s (Some E) =
    spelled (w.Pair ∷ w.List ∷ w.Operation ∷ w.B ∷ []) (arrow a s) [] (k.pair (k.list k.operation) s ∷ []) (put (names_pair (names_list names_operation) names_b) nil) E

view_ends_are : (r : Kind) (o : Option (List Kind)) → view_ends r o ≡ ends_with (r ∷ []) o
view_ends_are r None = refl
view_ends_are r (Some E) = spelled (w.A ∷ []) (one_known r) [] (r ∷ []) (put names_a nil) E

-- ---- a body

-- what goes on behind faults: nothing behind one
abbrev IsStrict : (Option ℕ → Typing) → Type 0
IsStrict K = (l : ℕ) (o : Option (List Entry)) → option_and_then (leading (K (Some l))) o ≡ None

module _ (K : Option ℕ → Typing) (strict : IsStrict K) (G : Typing) (R : List Entry) (W : List Entry → Option (List Entry))
    (h : (es : List Entry) → option_and_then (leading (K None)) (past R es) ≡ option_and_then (leading G) (W es)) where
  one_is : (l : ℕ) (r : Kind) (T : Typing) (o : Option (List Entry)) →
      option_and_then (leading (K (body_fault l T r))) (option_and_then (past R) o)
      ≡ option_and_then (leading G) (option_and_then W (option_and_then (ends_call r) (ended T o)))
  one_is l r (goes B) None = strict_none (body_fault l (goes B) r)
    where
      strict_none : (f : Option ℕ) → option_and_then (leading (K f)) None ≡ None
      strict_none f = refl
  one_is l r (goes B) (Some es) = by (same_kinds B (r ∷ [])) ∙ ap (λ q. option_and_then (leading G) (option_and_then W (cond q (Some es) None))) (same_kinds_symm B (r ∷ []))
    where
      by : (q : Bool) →
          option_and_then (leading (K (cond q None (Some l)))) (past R es) ≡ option_and_then (leading G) (option_and_then W (cond q (Some es) None))
      by true = h es
      by false = strict l (past R es)
  one_is l r fails None = refl
  one_is l r fails (Some es) = h es
  one_is l r (typing.bad m) o = strict m (option_and_then (past R) o)

  -- a body that must be within the limit
  whole_is : (small : Bool) (c : Context) (a r : Kind) (b : Body) (o : Option (List Entry)) →
      option_and_then (leading (K (fault_of_body small c a r b))) (option_and_then (past R) o)
      ≡ option_and_then (leading G) (option_and_then W (cond small (option_and_then (ends_call r) (ended (b.typing c (a ∷ [])) o)) None))
  whole_is true c a r b o = one_is b.location r (b.typing c (a ∷ [])) o
  whole_is false c a r b o = strict b.location (option_and_then (past R) o)

-- ---- bodies that stand where their blocks are

module _ (T : List Teller) (from_block base : ℕ) where
  pub record IsThere (b : Body) : Type 0 where
    pub entries : (c : Context) (S : List Kind) → told_by (slice_get T (from_block + b.location - 1)) c S ≡ block_entries b.node (base + b.location) c S
    pub typed : (c : Context) (S : List Kind) → b.typing c S ≡ nodes.body b.node b.location c S

  called_is : (P : List Kind → Bool) (Q : Option (List Kind) → Bool) (c : Context) (a r : Kind) (b : Body) → IsThere b →
      ((B : List Kind) → P B ≡ same_kinds (a ∷ []) B) → ((o : Option (List Kind)) → Q o ≡ ends_with (r ∷ []) o) → (es : List Entry) →
      called_by P Q (body_of b.node (base + b.location) c es)
      ≡ option_and_then (ends_call r) (ended (b.typing c (a ∷ [])) (past (told_by (slice_get T (from_block + b.location - 1)) c (a ∷ [])) es))
  called_is P Q c a r b t p q es =
      ap (λ (P : List Kind → Bool). called_by P Q (body_of b.node (base + b.location) c es)) (λ i B. p B i)
      ∙ ap (λ (Q : Option (List Kind) → Bool). called_by (same_kinds (a ∷ [])) Q (body_of b.node (base + b.location) c es)) (λ i o. q o i)
      ∙ begun (a ∷ []) r (body_of b.node (base + b.location) c es)
      ∙ ap (option_and_then (ends_call r)) (body_from b.node (base + b.location) b.location c (a ∷ []) es)
      ∙ sym (
      ap (λ X. option_and_then (ends_call r) (ended (b.typing c (a ∷ [])) (past X es))) (t.entries c (a ∷ []))
      ∙ ap (λ U. option_and_then (ends_call r) (ended U (past (block_entries b.node (base + b.location) c (a ∷ [])) es))) (t.typed c (a ∷ []))
      )

  abbrev pub ViewsAreThere : List TypedView → Type 0
  ViewsAreThere [] = Unit {0}
  ViewsAreThere (v ∷ vs) = IsThere v.body × ViewsAreThere vs

  module _ (K : Found Script → Typing) (strict : (l : ℕ) (o : Option (List Entry)) → option_and_then (leading (K (fault l))) o ≡ None) (G : Typing) (s : Kind) where
    views_are : (vs : List TypedView) → ViewsAreThere vs → (J : List View → Found Script) → ((ws : List View) → K (J ws) ≡ G) → (es : List Entry) →
        option_and_then (leading (K (and_then (with_views s vs) J))) (past (of_blocks T (view_blocks from_block s vs)) es)
        ≡ option_and_then (leading G) (views_walk s vs base es)
    views_are [] h J g es = ap (λ U. leading U es) (g [])
    views_are (v ∷ vs) h J g es =
        let X : List Entry = told_by (slice_get T (from_block + v.body.location - 1)) view (k.pair v.input s ∷ []) in
        let R : List Entry = of_blocks T (view_blocks from_block s vs) in
        ap (option_and_then (leading (K (and_then (with_views s (v ∷ vs)) J)))) (past_append X R es)
        ∙ ap (λ U. option_and_then (leading U) (option_and_then (past R) (past X es))) (faults (view_fault s v) (with_views s vs))
        ∙ whole_is K' (λ l o. strict l o) G R (views_walk s vs base) (λ fs. views_are vs h.1 (λ ws. J (a_view v ∷ ws)) (λ ws. g (a_view v ∷ ws)) fs)
        (is_small (k.pair v.input s)) view (k.pair v.input s) v.output v.body (past X es)
        ∙ sym (ap (λ o. option_and_then (leading G) (option_and_then (views_walk s vs base) (cond (is_small (k.pair v.input s)) o None)))
        (called_is (script_begins v.input s) (view_ends v.output) view (k.pair v.input s) v.output v.body h.0 (begins_are v.input s) (view_ends_are v.output) es))
      where
        K' : Option ℕ → Typing
        K' f = K (unless_fault f (and_then (with_views s vs) (λ ws. J (a_view v ∷ ws))))

        faults : (f : Option ℕ) (q : Found (List View)) →
            K (and_then (unless_fault f (and_then q (λ ws. found (a_view v ∷ ws)))) J) ≡ K (unless_fault f (and_then q (λ ws. J (a_view v ∷ ws))))
        faults (Some l) q = refl
        faults None (found ws) = refl
        faults None (fault l) = refl

  -- a script
  pub script_is : (K : Found Script → Typing) → ((l : ℕ) (o : Option (List Entry)) → option_and_then (leading (K (fault l))) o ≡ None) → (G : Typing) →
      (o : Outline) → IsThere o.code → ViewsAreThere o.views → ((ws : List View) → K (found (a_script o ws)) ≡ G) → (es : List Entry) →
      option_and_then (leading (K (with_bodies o))) (past (of_blocks T (outline_blocks from_block o)) es)
      ≡ option_and_then (leading G) (script_walk o base es)
  script_is K strict G o h v g es =
      let a : Kind = k.pair o.parameter o.storage in
      let r : Kind = k.pair (k.list k.operation) o.storage in
      let small : Bool = is_small a && is_small r in
      let X : List Entry = told_by (slice_get T (from_block + o.code.location - 1)) (main o.entries) (a ∷ []) in
      let R : List Entry = of_blocks T (view_blocks from_block o.storage o.views) in
      ap (option_and_then (leading (K (with_bodies o)))) (past_append X R es)
      ∙ whole_is (λ f. K (unless_fault f (and_then (with_views o.storage o.views) (λ ws. found (a_script o ws))))) strict G R (views_walk o.storage o.views base)
      (λ fs. views_are K strict G o.storage o.views v (λ ws. found (a_script o ws)) g fs) small (main o.entries) a r o.code (past X es)
      ∙ sym (ap (λ x. option_and_then (leading G) (option_and_then (views_walk o.storage o.views base) (cond small x None)))
      (called_is (script_begins o.parameter o.storage) (code_ends o.parameter o.storage) (main o.entries) a r o.code h (begins_are o.parameter o.storage) (code_ends_are o.parameter o.storage) es))
