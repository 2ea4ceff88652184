-- Entries one behind another.
use Rattle.std.proofs.Common.{◌≡◌, ℕ, ◌+◌, Bool, true, false, cond, Option, Some, None, IfOk, List, [], ◌∷◌, ◌++◌, map, refl, sym, ap, ◌∙◌, subst, arith, append_assoc}
use Rattle.std.specs.Prelude.{Result, Ok, Err}
use Rattle.std.proofs.lemmas.List.{append-nil, map-append}
use Rattle.rules_text.specs.nodes.Tree.{Tree, seq, none, more, trees_of}
use Rattle.rules_data.specs.types.Printing.{named}
use Rattle.rules_data.specs.types.Kind.{Kind}
use Rattle.rules_code.specs.certificates.Certificates.{entry_node, entry_nodes, located, stack_nodes}
use Rattle.rules_code.specs.certificates.Derivation.{Entry, before, end, failing}
use Rattle.mich_base.specs.View.{tree, trees}
use Rattle.mich_base.specs.declared.node.Node.{Node}
use Rattle.mich_base.specs.declared.memory.Memory.{Memory}
use Rattle.mich_cert.specs.telling.Length.{stack_weight}
use Rattle.mich_cert.specs.declared.telling.told.Told.{Told}
use Rattle.mich_cert.specs.declared.telling.told.Line.{Line}
use Rattle.mich_cert.specs.declared.telling.told.Word.{Word}
use Rattle.mich_cert.specs.declared.telling.told.Word.TheVariants as word
use Rattle.mich_cert.specs.telling.Tops.{deep_top, tops_are_flat}
use Rattle.mich_cert.specs.telling.Told.{weight, weights, IsLine, IsTold, Adds, IsPut, snoc, deep_behind, stack_entry, word_name}

-- ---- one more

pub snoc_list : (ts : List Tree) (t : Tree) → trees_of (ts ++ t ∷ []) ≡ snoc (trees_of ts) t
snoc_list [] t = refl
snoc_list (x ∷ ts) t = ap (more x) (snoc_list ts t)

pub pushed_is : (ns ms : List Node) (n : Node) → ms ≡ ns ++ n ∷ [] → trees ms ≡ snoc (trees ns) (tree n)
pushed_is ns ms n e = ap trees e ∙ ap trees_of (map-append tree ns (n ∷ [])) ∙ snoc_list (map tree ns) (tree n)

nodes_more : (ds : List Entry) (e : Entry) → entry_nodes (ds ++ e ∷ []) ≡ snoc (entry_nodes ds) (entry_node e)
nodes_more [] e = refl
nodes_more (d ∷ ds) e = ap (more (entry_node d)) (nodes_more ds e)

weights_more : (ds : List Entry) (e : Entry) → weights (ds ++ e ∷ []) ≡ weights ds + weight e
weights_more [] e = omega arith
weights_more (d ∷ ds) e = let h = weights_more ds e in omega (arith, h)

line_more : (ds : List Entry) (e : Entry) (x : Line) (new : Option Line) → IsPut (entry_node e) (weight e) x new → IsLine ds (Some x) → IsLine (ds ++ e ∷ []) new
line_more ds e x (Some y) h g =
    let w = weights_more ds e in
    let r = h.1 in
    let q = g.1 in
    (h.0 ∙ ap (λ ts. snoc ts (entry_node e)) g.0 ∙ sym (nodes_more ds e), omega (arith, w, r, q))
line_more ds e x None h g =
    let w = weights_more ds e in
    let q = g.1 in
    omega (arith, w, h, q)

-- a line with one more entry, where there is a line
pub put_line : (e : Entry) (x : Line) (old : Option Line) → old ≡ Some x → (r : Result (Option Line) Memory) → IfOk r (λ o. IsPut (entry_node e) (weight e) x o) →
    IfOk r (λ o. (ds : List Entry) → IsLine ds old → IsLine (ds ++ e ∷ []) o)
put_line e x old f (Ok new) h = λ ds g. line_more ds e x new h (subst (IsLine ds) f g)
put_line e x old f (Err m) h = tt

pub no_line : (e : Entry) (old : Option Line) → old ≡ None → (ds : List Entry) → IsLine ds old → IsLine (ds ++ e ∷ []) None
no_line e old f ds g =
    let h : IsLine ds None = subst (IsLine ds) f g in
    let w = weights_more ds e in
    omega (arith, w, h)

stack_is : (w : Word) (l : ℕ) (A : List Kind) (x : Line) (o : Option Line) →
    IsPut (named (word_name w) (located l (more (seq (stack_nodes A)) none))) (3 + stack_weight A) x o → IsPut (entry_node (stack_entry w l A)) (weight (stack_entry w l A)) x o
stack_is word.At l A x o h = h
stack_is word.End l A x o h = h

pub put_stack : (w : Word) (l : ℕ) (A : List Kind) (x : Line) (r : Result (Option Line) Memory) →
    IfOk r (λ o. IsPut (named (word_name w) (located l (more (seq (stack_nodes A)) none))) (3 + stack_weight A) x o) → IfOk r (λ o. IsPut (entry_node (stack_entry w l A)) (weight (stack_entry w l A)) x o)
put_stack w l A x (Ok o) h = stack_is w l A x o h
put_stack w l A x (Err m) h = tt

deep_chosen : (b : Bool) (o p : Option ℕ) (k l : ℕ) (A : List Kind) → o ≡ deep_behind p l A → cond b o (Some k) ≡ deep_behind (cond b p (Some k)) l A
deep_chosen true o p k l A e = e
deep_chosen false o p k l A e = refl

deep_more : (ds : List Entry) (w : Word) (l : ℕ) (A : List Kind) → deep_top (ds ++ stack_entry w l A ∷ []) ≡ deep_behind (deep_top ds) l A
deep_more [] word.At l A = refl
deep_more [] word.End l A = refl
deep_more (before k B ∷ ds) w l A = deep_chosen (tops_are_flat B) (deep_top (ds ++ stack_entry w l A ∷ [])) (deep_top ds) k l A (deep_more ds w l A)
deep_more (end k B ∷ ds) w l A = deep_chosen (tops_are_flat B) (deep_top (ds ++ stack_entry w l A ∷ [])) (deep_top ds) k l A (deep_more ds w l A)
deep_more (failing k ∷ ds) w l A = deep_more ds w l A

deep_failing : (ds : List Entry) (l : ℕ) → deep_top (ds ++ failing l ∷ []) ≡ deep_top ds
deep_failing [] l = refl
deep_failing (before k B ∷ ds) l = ap (λ o. cond (tops_are_flat B) o (Some k)) (deep_failing ds l)
deep_failing (end k B ∷ ds) l = ap (λ o. cond (tops_are_flat B) o (Some k)) (deep_failing ds l)
deep_failing (failing k ∷ ds) l = deep_failing ds l

-- ---- what is told

-- an entry of a stack behind the others
pub stack_told : (w : Word) (l : ℕ) (A : List Kind) (old new : Told) →
    ((ds : List Entry) → IsLine ds old.line → IsLine (ds ++ stack_entry w l A ∷ []) new.line) → new.deep ≡ deep_behind old.deep l A →
    Adds old new (stack_entry w l A ∷ [])
stack_told w l A old new h e ds g = record {
  line = h ds g.line;
  deep = e ∙ ap (λ o. deep_behind o l A) g.deep ∙ sym (deep_more ds w l A);
}

pub failing_told : (l : ℕ) (old new : Told) → ((ds : List Entry) → IsLine ds old.line → IsLine (ds ++ failing l ∷ []) new.line) → new.deep ≡ old.deep →
    Adds old new (failing l ∷ [])
failing_told l old new h e ds g = record {
  line = h ds g.line;
  deep = e ∙ g.deep ∙ sym (deep_failing ds l);
}

pub adds_none : (told : Told) → Adds told told []
adds_none told ds h = subst (IsTold told) (sym (append-nil ds)) h

pub adds_both : (old now new : Told) (es fs : List Entry) → Adds old now es → Adds now new fs → Adds old new (es ++ fs)
adds_both old now new es fs h g ds i = subst (IsTold new) (append_assoc ds es fs) (g (ds ++ es) (h ds i))
