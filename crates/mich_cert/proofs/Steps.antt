-- What the answers of the walk are, by those of the calls within.
use Rattle.std.specs.Borrow.{Bor}
use Rattle.std.specs.Prelude.{Result, Ok, Err, IfOk}
use Rattle.std.proofs.Common.{◌≡◌, ℕ, ◌+◌, Bool, true, false, Option, Some, List, [], ◌∷◌, refl, sym, ap, ◌∙◌, rules}
use Rattle.rules_text.specs.declared.nodes.Primitive.{Primitive}
use Rattle.rules_text.specs.nodes.Limits.{count_limit}
use Rattle.rules_text.specs.nodes.Tree.{seq, Trees, size}
use Rattle.rules_data.specs.types.Attributes.{pushable}
use Rattle.rules_data.specs.types.Kind.{Kind}
use Rattle.rules_data.specs.types.Reading.{type_at}
use Rattle.rules_data.specs.values.Literals.{read}
use Rattle.rules_code.specs.instructions.Context.{Context}
use Rattle.rules_code.specs.typing.Nodes.{outline}
use Rattle.rules_code.specs.typing.Scripts.{Outline}
use Rattle.rules_code.specs.certificates.Derivation.{Entry}
use Rattle.mich_base.specs.View.{tree, trees}
use Rattle.mich_base.specs.declared.node.Node.{Node}
use Rattle.mich_base.specs.declared.node.Node as nodes
use Rattle.mich_base.specs.declared.node.Node.TheVariants as node
use Rattle.mich_cert.specs.Arguments.{a_count, a_kind}
use Rattle.mich_cert.specs.Bodiless.{bodiless_walk, is_view}
use Rattle.mich_cert.specs.Entries.{all_entries, entries_past}
use Rattle.mich_cert.specs.Pushed.{pending_in, push_walk}
use Rattle.mich_cert.specs.Scripts.{if_found, create_walk}
use Rattle.mich_cert.specs.Walk.{AreSmall, branch_walk, dip_walk, lambda_walk, loop_walk, map_walk, sequence_walk, step_by, step_of}
use Rattle.mich_cert.specs.Ways.{way_of, lambda_way}
use Rattle.mich_cert.specs.declared.entry.Entry.{Entry as CodeEntry}
use Rattle.mich_cert.specs.declared.entry.Entry.TheVariants as e
use Rattle.mich_cert.specs.declared.way.Way.TheVariants as way
use Rattle.mich_cert.proofs.BodilessSteps.{bodiless_step}
use Rattle.mich_cert.proofs.Creates.{of_outline}
use Rattle.mich_cert.proofs.Pushes.{push_step}
use Rattle.mich_cert.proofs.Sequences.{sequence_walked}
use Rattle.mich_cert.proofs.Ways as ways

-- each entry of the code keeps its types within the limit
pub all_small : (es : List CodeEntry) → AreSmall (all_entries es)
all_small [] = tt
all_small (e.At l s ∷ es) = (s.small, all_small es)
all_small (e.End l s ∷ es) = (s.small, all_small es)
all_small (e.Fails l ∷ es) = all_small es

abbrev Answer : Type 0 → Type 0
Answer E = Result (Option (Bor (List CodeEntry))) E

same_past : {E : Type 0} (r : Answer E) (x y : Option (List Entry)) → x ≡ y → IfOk r (λ o. entries_past o ≡ x) → IfOk r (λ o. entries_past o ≡ y)
same_past (Ok o) x y e h = h ∙ e
same_past (Err m) x y e h = h

-- ---- sequences

tree_seq : (ns : List Node) → tree (node.Seq ns) ≡ seq (trees ns)
tree_seq ns = search (rules, nodes.the_lemmas)

pub sequence_is : {E : Type 0} (r : Answer E) (t : Node) (ns : List Node) (at : ℕ) (c : Context) (A : List Kind) (es : List Entry) → t ≡ node.Seq ns →
    IfOk r (λ o. entries_past o ≡ sequence_walk (trees ns) at c A es) → IfOk r (λ o. entries_past o ≡ step_of (tree t) at c A es)
sequence_is r t ns at c A es e h =
    same_past r (sequence_walk (trees ns) at c A es) (step_of (tree t) at c A es)
    (sequence_walked (trees ns) at c A es ∙ sym (ap (λ u. step_of u at c A es) (ap tree e ∙ tree_seq ns))) h

-- ---- applications

pub bodiless_is : {E : Type 0} (r : Answer E) (op : Primitive) (o : Option Primitive) (annots : List (List ℕ)) (ts : Trees) (at : ℕ) (c : Context) (A : List Kind) (es : List CodeEntry) →
    Some op ≡ o → way.Bodiless ≡ way_of op →
    IfOk r (λ x. entries_past x ≡ bodiless_walk op annots ts c A (all_entries es)) → IfOk r (λ x. entries_past x ≡ step_by o annots ts at c A (all_entries es))
bodiless_is r op o annots ts at c A es e h k =
    same_past r (bodiless_walk op annots ts c A (all_entries es)) (step_by o annots ts at c A (all_entries es))
    (bodiless_step op annots ts c A (sym h) at (all_entries es) (all_small es) _ refl ∙ ap (λ x. step_by x annots ts at c A (all_entries es)) e) k

module _ {E : Type 0} (r : Answer E) (op : Primitive) (annots : List (List ℕ)) (ns : List Node) (at : ℕ) (c : Context) (A : List Kind) (es : List CodeEntry) where
  abbrev IsStep : Type 0
  IsStep = IfOk r (λ x. entries_past x ≡ step_by (Some op) annots (trees ns) at c A (all_entries es))

  abbrev Is : Option (List Entry) → Type 0
  Is o = IfOk r (λ x. entries_past x ≡ o)

  to_step : (o : Option (List Entry)) → o ≡ step_by (Some op) annots (trees ns) at c A (all_entries es) → Is o → IsStep
  to_step o e h = same_past r o (step_by (Some op) annots (trees ns) at c A (all_entries es)) e h

  pub branch_is : way_of op ≡ way.Branch → (b d : Node) → ns ≡ b ∷ d ∷ [] → Is (branch_walk op (tree b) (tree d) (at + 1) c A (all_entries es)) → IsStep
  branch_is h b d e k = to_step (branch_walk op (tree b) (tree d) (at + 1) c A (all_entries es)) (ways.branch_step op annots ns at c A (all_entries es) h b d e _ refl) k

  pub turn_is : way_of op ≡ way.Turn → (b : Node) → ns ≡ b ∷ [] → Is (loop_walk op (tree b) (at + 1) c A (all_entries es)) → IsStep
  turn_is h b e k = to_step (loop_walk op (tree b) (at + 1) c A (all_entries es)) (ways.turn_step op annots ns at c A (all_entries es) h b e _ refl) k

  pub dip_is : way_of op ≡ way.Dip → (b : Node) → ns ≡ b ∷ [] → Is (dip_walk 1 (tree b) (at + 1) c A (all_entries es)) → IsStep
  dip_is h b e k = to_step (dip_walk 1 (tree b) (at + 1) c A (all_entries es)) (ways.dip_step op annots ns at c A (all_entries es) h b e _ refl) k

  pub count_is : way_of op ≡ way.Dip → (t b : Node) → ns ≡ t ∷ b ∷ [] → (n : ℕ) → Some n ≡ a_count 0 count_limit (tree t) → (k : ℕ) → k ≡ at + 1 + size (tree t) →
      Is (dip_walk n (tree b) k c A (all_entries es)) → IsStep
  count_is h t b e n g k f i =
      to_step (dip_walk n (tree b) k c A (all_entries es))
      (ap (λ m. dip_walk n (tree b) m c A (all_entries es)) f ∙ ways.count_step op annots ns at c A (all_entries es) h t b e n g _ refl) i

  pub map_is : way_of op ≡ way.Map → (b : Node) → ns ≡ b ∷ [] → Is (map_walk (tree b) (at + 1) c A (all_entries es)) → IsStep
  map_is h b e k = to_step (map_walk (tree b) (at + 1) c A (all_entries es)) (ways.map_step op annots ns at c A (all_entries es) h (all_small es) b e _ refl) k

  pub lambda_is : (q : Bool) → way_of op ≡ lambda_way q → (t u b : Node) → ns ≡ t ∷ u ∷ b ∷ [] → (a z : Kind) → Some a ≡ a_kind (type_at 1 (tree t)) →
      (i : ℕ) → i ≡ 1 + size (tree t) → Some z ≡ a_kind (type_at i (tree u)) → (j k : ℕ) → j ≡ at + 1 + size (tree t) → k ≡ j + size (tree u) →
      Is (lambda_walk q a z (tree b) k A (all_entries es)) → IsStep
  lambda_is q h t u b e a z f i l g j k m n w =
      to_step (lambda_walk q a z (tree b) k A (all_entries es))
      (ap (λ x. lambda_walk q a z (tree b) x A (all_entries es)) (n ∙ ap (λ x. x + size (tree u)) m)
      ∙ ways.lambda_step op annots ns at c A (all_entries es) q h t u b e (all_small es) a z f (g ∙ ap (λ x. a_kind (type_at x (tree u))) l) _ refl) w

  pub push_is : way_of op ≡ way.Push → (t u : Node) → ns ≡ t ∷ u ∷ [] → (a : Kind) → Some a ≡ a_kind (type_at 1 (tree t)) → pushable a ≡ true →
      (i : ℕ) → i ≡ 1 + size (tree t) → Is (push_walk a (pending_in (read a i (tree u))) at A (all_entries es)) → IsStep
  push_is h t u e a f g i j k =
      to_step (push_walk a (pending_in (read a i (tree u))) at A (all_entries es)) (push_step op annots ns at c A (all_entries es) h t u e a f g i j) k

  pub create_is : way_of op ≡ way.Create → is_view c ≡ false → (t : Node) → ns ≡ t ∷ [] → (o : Outline) → Some o ≡ if_found (outline (tree t)) →
      Is (create_walk o at A (all_entries es)) → IsStep
  create_is h v t e o f k = to_step (create_walk o at A (all_entries es)) (of_outline op annots at A (all_entries es) h ns t e o f c v) k
