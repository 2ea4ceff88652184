-- The walks of the forms are the steps of the instructions of their names.
use Rattle.std.proofs.Common.{◌≡◌, ℕ, ◌+◌, Bool, true, false, ◌&&◌, nat_le, cond, pos, negsuc, Option, Some, None, List, [], ◌∷◌, drop, refl, sym, ap, ◌∙◌}
use Rattle.std.specs.Prelude.{option_and_then}
use Rattle.rules_text.specs.declared.nodes.Primitive.{Primitive}
use Rattle.rules_text.specs.declared.nodes.Primitive.TheVariants as p
use Rattle.rules_text.specs.nodes.Limits.{count_limit}
use Rattle.rules_text.specs.nodes.Tree.{Tree, int, str, bytes, prim, seq, Trees, none, more, size}
use Rattle.rules_data.specs.types.Kind.{Kind, or, list}
use Rattle.rules_data.specs.types.Reading.{Reading, a_type, bad_type, too_large, type_at, any_kind}
use Rattle.rules_code.specs.instructions.Arguments.{Found, found, fault, and_then, with_attribute, type_argument, count_argument}
use Rattle.rules_code.specs.instructions.Context.{Context}
use Rattle.rules_code.specs.instructions.Context as place
use Rattle.rules_code.specs.instructions.Control.{Arrow, dip_of, lambda_of, call_kinds}
use Rattle.rules_code.specs.instructions.Types.{bool}
use Rattle.rules_code.specs.typing.Acts.{one_body, two_bodies, last_body, dip_type, lambda_type, lambda_rec_type}
use Rattle.rules_code.specs.typing.Nodes.{bodies}
use Rattle.rules_code.specs.typing.Stacks.{on_bool, on_option, on_or, on_list, on_parts, on_mapped}
use Rattle.rules_code.specs.typing.Typing.{Typing, Typer, goes, bad, join, ends, mapped}
use Rattle.rules_code.specs.typing.Typing as typing
use Rattle.rules_code.specs.certificates.Blocks.{block, last_location}
use Rattle.rules_code.specs.certificates.Blocks as blocks_of
use Rattle.rules_code.specs.certificates.Derivation.{Entry, of_blocks, tellers}
use Rattle.mich_base.specs.Counted.{IsNotOne, IsNotTwo, IsNotThree}
use Rattle.mich_base.specs.View.{tree, trees}
use Rattle.mich_base.specs.declared.node.Node.{Node}
use Rattle.mich_cert.specs.Arguments.{a_count, a_kind}
use Rattle.mich_cert.specs.Walk.{past, leading, inner_by, step_by, AreSmall, branch_walk, loop_walk, dip_walk, lambda_walk, map_walk}
use Rattle.mich_cert.specs.Ways.{way_of, lambda_way}
use Rattle.mich_cert.specs.declared.way.Way.TheVariants as way
use Rattle.mich_cert.proofs.Branches.{nowhere, if_walked, if_none_walked, if_left_walked, if_cons_walked}
use Rattle.mich_cert.proofs.Dips.{dip_walked, counted_walked, uncounted_walked}
use Rattle.mich_cert.proofs.Lambdas.{lambda_walked, rec_walked}
use Rattle.mich_cert.proofs.Loops.{loop_walked, loop_left_walked, iter_walked}
use Rattle.mich_cert.proofs.Maps.{map_walked}

-- ---- the names of a way

of_branch : (P : Primitive → Type 0) → P p.OpIf → P p.OpIfNone → P p.OpIfLeft → P p.OpIfCons → (op : Primitive) → way_of op ≡ way.Branch → P op
of_branch P a b c d p.OpIf h = a
of_branch P a b c d p.OpIfNone h = b
of_branch P a b c d p.OpIfLeft h = c
of_branch P a b c d p.OpIfCons h = d
of_branch P a b c d op h = absurd cc

of_turn : (P : Primitive → Type 0) → P p.OpLoop → P p.OpLoopLeft → P p.OpIter → (op : Primitive) → way_of op ≡ way.Turn → P op
of_turn P a b c p.OpLoop h = a
of_turn P a b c p.OpLoopLeft h = b
of_turn P a b c p.OpIter h = c
of_turn P a b c op h = absurd cc

of_dip : (P : Primitive → Type 0) → P p.OpDip → (op : Primitive) → way_of op ≡ way.Dip → P op
of_dip P a p.OpDip h = a
of_dip P a op h = absurd cc

of_map : (P : Primitive → Type 0) → P p.OpMap → (op : Primitive) → way_of op ≡ way.Map → P op
of_map P a p.OpMap h = a
of_map P a op h = absurd cc

of_lambda : (P : Primitive → Type 0) → P p.OpLambda → (op : Primitive) → way_of op ≡ way.Lambda → P op
of_lambda P a p.OpLambda h = a
of_lambda P a op h = absurd cc

of_rec : (P : Primitive → Type 0) → P p.OpLambdaRec → (op : Primitive) → way_of op ≡ way.LambdaRec → P op
of_rec P a p.OpLambdaRec h = a
of_rec P a op h = absurd cc

-- ---- another number of bodies

not_two : (ns : List Node) → IsNotTwo ns → (next : Typer → Typer → Typing) (o : Option (List Entry)) →
    None ≡ option_and_then (leading (two_bodies (bodies (trees ns) 1) next)) o
not_two [] h next o = sym (nowhere 0 o)
not_two (n ∷ []) h next o = sym (nowhere 0 o)
not_two (n ∷ m ∷ []) h next o = absurd h
not_two (n ∷ m ∷ l ∷ ns) h next o = sym (nowhere 0 o)

not_one : (ns : List Node) → IsNotOne ns → (next : Typer → Typing) (o : Option (List Entry)) →
    None ≡ option_and_then (leading (one_body (bodies (trees ns) 1) next)) o
not_one [] h next o = sym (nowhere 0 o)
not_one (n ∷ []) h next o = absurd h
not_one (n ∷ m ∷ ns) h next o = sym (nowhere 0 o)

-- ---- types and counts that are read

a_type_is : (R : Reading) (a : Kind) → Some a ≡ a_kind R → R ≡ a_type a
a_type_is (a_type b) a e = cc
a_type_is (bad_type l) a e = absurd cc
a_type_is too_large a e = absurd cc

-- a reading that is no type
abbrev IsFault : {X : Type 0} → Found X → Type 0
IsFault q = (l : ℕ) × (q ≡ fault l)

no_type : (R : Reading) (at : ℕ) → None ≡ a_kind R → IsFault (with_attribute any_kind at R)
no_type (a_type b) at e = absurd cc
no_type (bad_type l) at e = (l, refl)
no_type too_large at e = (at, refl)

count_by : (q : Bool) (m n at : ℕ) → Some n ≡ cond q (Some m) None → cond q (found m) (fault at) ≡ found n
count_by true m n at e = cc
count_by false m n at e = absurd cc

pub count_found : (least most at : ℕ) (t : Tree) (n : ℕ) → Some n ≡ a_count least most t → count_argument least most at t ≡ found n
count_found least most at (int (pos m)) n e = count_by (nat_le least m && nat_le m most) m n at e
count_found least most at (int (negsuc m)) n e = absurd cc
count_found least most at (str s) n e = absurd cc
count_found least most at (bytes b) n e = absurd cc
count_found least most at (prim name annots ts) n e = absurd cc
count_found least most at (seq ts) n e = absurd cc

fault_by : (q : Bool) (m at : ℕ) → None ≡ cond q (Some m) None → cond q (found m) (fault at) ≡ fault at
fault_by true m at e = absurd cc
fault_by false m at e = refl

pub count_fault : (least most at : ℕ) (t : Tree) → None ≡ a_count least most t → count_argument least most at t ≡ fault at
count_fault least most at (int (pos m)) e = fault_by (nat_le least m && nat_le m most) m at e
count_fault least most at (int (negsuc m)) e = refl
count_fault least most at (str s) e = refl
count_fault least most at (bytes b) e = refl
count_fault least most at (prim name annots ts) e = refl
count_fault least most at (seq ts) e = refl

arrow_found : (t u b : Tree) (a r : Kind) → Some a ≡ a_kind (type_at 1 t) → Some r ≡ a_kind (type_at (1 + size t) u) →
    lambda_of (more t (more u (more b none))) ≡ found record { argument = a; result = r }
arrow_found t u b a r e f =
    ap (λ R. and_then (with_attribute any_kind 1 R) (λ (x : Kind). and_then (type_argument any_kind (1 + size t) u) (λ y. found record { argument = x; result = y }))) (a_type_is (type_at 1 t) a e)
    ∙ ap (λ R. and_then (with_attribute any_kind (1 + size t) R) (λ (y : Kind). found record { argument = a; result = y })) (a_type_is (type_at (1 + size t) u) r f)

no_argument : (t u b : Tree) → None ≡ a_kind (type_at 1 t) → IsFault (lambda_of (more t (more u (more b none))))
no_argument t u b e =
    let g : IsFault (type_argument any_kind 1 t) = no_type (type_at 1 t) 1 e in
    (g.0, ap (λ (q : Found Kind). and_then q (λ (x : Kind). and_then (type_argument any_kind (1 + size t) u) (λ y. found record { argument = x; result = y }))) g.1)

no_result : (t u b : Tree) (a : Kind) → Some a ≡ a_kind (type_at 1 t) → None ≡ a_kind (type_at (1 + size t) u) → IsFault (lambda_of (more t (more u (more b none))))
no_result t u b a e f =
    let g : IsFault (type_argument any_kind (1 + size t) u) = no_type (type_at (1 + size t) u) (1 + size t) f in (
      g.0,
      ap (λ R. and_then (with_attribute any_kind 1 R) (λ (x : Kind). and_then (type_argument any_kind (1 + size t) u) (λ y. found record { argument = x; result = y }))) (a_type_is (type_at 1 t) a e)
          ∙ ap (λ (q : Found Kind). and_then q (λ (y : Kind). found record { argument = a; result = y })) g.1,
    )

-- what LAMBDA and LAMBDA_REC lead to, by the types that are read
abbrev by_arrow : Trees → ℕ → List Kind → List Entry → Found Arrow → Option (List Entry)
by_arrow ts at A es q =
    option_and_then (leading (typing.on_found q (λ x. last_body (bodies ts 1) (λ b. lambda_type x b A))))
    (past (of_blocks (tellers ts (at + 1)) (blocks_of.on_found q (λ x. block (last_location ts 1) place.lambda (x.argument ∷ []) ∷ []))) es)

abbrev by_rec : Trees → ℕ → List Kind → List Entry → Found Arrow → Option (List Entry)
by_rec ts at A es q =
    option_and_then (leading (typing.on_found q (λ x. last_body (bodies ts 1) (λ b. lambda_rec_type x b A))))
    (past (of_blocks (tellers ts (at + 1)) (blocks_of.on_found q (λ x. block (last_location ts 1) place.lambda (call_kinds x.argument x.result true) ∷ []))) es)

not_three : (ns : List Node) → IsNotThree ns → lambda_of (trees ns) ≡ fault 0
not_three [] h = refl
not_three (n ∷ []) h = refl
not_three (n ∷ m ∷ []) h = refl
not_three (n ∷ m ∷ l ∷ []) h = absurd h
not_three (n ∷ m ∷ l ∷ k ∷ ns) h = refl

not_a_dip : (ns : List Node) → IsNotOne ns → IsNotTwo ns → dip_of (trees ns) ≡ fault 0
not_a_dip [] h g = refl
not_a_dip (n ∷ []) h g = absurd h
not_a_dip (n ∷ m ∷ []) h g = absurd g
not_a_dip (n ∷ m ∷ l ∷ ns) h g = refl

abbrev by_dip : Trees → ℕ → Context → List Kind → List Entry → Found ℕ → Option (List Entry)
by_dip ts at c A es q =
    option_and_then (leading (typing.on_found q (λ n. last_body (bodies ts 1) (λ b. dip_type n b c A))))
    (past (of_blocks (tellers ts (at + 1)) (blocks_of.on_found q (λ n. block (last_location ts 1) c (drop n A) ∷ []))) es)

-- ---- steps

module _ (op : Primitive) (annots : List (List ℕ)) (ns : List Node) (at : ℕ) (c : Context) (A : List Kind) (es : List Entry) where
  abbrev step : Option (List Entry)
  step = step_by (Some op) annots (trees ns) at c A es

  abbrev step_on : Primitive → List Node → Option (List Entry)
  step_on op ns = step_by (Some op) annots (trees ns) at c A es

  pub branch_step : way_of op ≡ way.Branch → (b d : Node) → ns ≡ b ∷ d ∷ [] → (r : Option (List Entry)) →
      r ≡ branch_walk op (tree b) (tree d) (at + 1) c A es → r ≡ step
  branch_step h b d e r f =
      f
      ∙ of_branch (λ op. branch_walk op (tree b) (tree d) (at + 1) c A es ≡ step_on op (b ∷ d ∷ []))
      (if_walked annots (tree b) (tree d) at c A es) (if_none_walked annots (tree b) (tree d) at c A es)
      (if_left_walked annots (tree b) (tree d) at c A es) (if_cons_walked annots (tree b) (tree d) at c A es) op h
      ∙ sym (ap (step_on op) e)

  pub no_branches : way_of op ≡ way.Branch → IsNotTwo ns → None ≡ step
  no_branches h g =
      of_branch (λ op. None ≡ step_on op ns)
      (not_two ns g (λ b d. on_bool A (λ A. join (b c A) (d c A))) (past (inner_by (Some p.OpIf) (trees ns) at c A) es))
      (not_two ns g (λ b d. on_option A (λ a A. join (b c A) (d c (a ∷ A)))) (past (inner_by (Some p.OpIfNone) (trees ns) at c A) es))
      (not_two ns g (λ b d. on_or A (λ l r A. join (b c (l ∷ A)) (d c (r ∷ A)))) (past (inner_by (Some p.OpIfLeft) (trees ns) at c A) es))
      (not_two ns g (λ b d. on_list A (λ a A. join (b c (a ∷ list a ∷ A)) (d c A))) (past (inner_by (Some p.OpIfCons) (trees ns) at c A) es))
      op h

  pub turn_step : way_of op ≡ way.Turn → (b : Node) → ns ≡ b ∷ [] → (r : Option (List Entry)) → r ≡ loop_walk op (tree b) (at + 1) c A es → r ≡ step
  turn_step h b e r f =
      f
      ∙ of_turn (λ op. loop_walk op (tree b) (at + 1) c A es ≡ step_on op (b ∷ []))
      (loop_walked annots (tree b) at c A es) (loop_left_walked annots (tree b) at c A es) (iter_walked annots (tree b) at c A es) op h
      ∙ sym (ap (step_on op) e)

  pub no_turn : way_of op ≡ way.Turn → IsNotOne ns → None ≡ step
  no_turn h g =
      of_turn (λ op. None ≡ step_on op ns)
      (not_one ns g (λ b. on_bool A (λ A. ends (b c A) (bool ∷ A) (goes A))) (past (inner_by (Some p.OpLoop) (trees ns) at c A) es))
      (not_one ns g (λ b. on_or A (λ l r A. ends (b c (l ∷ A)) (or l r ∷ A) (goes (r ∷ A)))) (past (inner_by (Some p.OpLoopLeft) (trees ns) at c A) es))
      (not_one ns g (λ b. on_parts A (λ a A. ends (b c (a ∷ A)) A (goes A))) (past (inner_by (Some p.OpIter) (trees ns) at c A) es))
      op h

  pub dip_step : way_of op ≡ way.Dip → (b : Node) → ns ≡ b ∷ [] → (r : Option (List Entry)) → r ≡ dip_walk 1 (tree b) (at + 1) c A es → r ≡ step
  dip_step h b e r f =
      f ∙ of_dip (λ op. dip_walk 1 (tree b) (at + 1) c A es ≡ step_on op (b ∷ [])) (dip_walked annots (tree b) at c A es) op h
      ∙ sym (ap (step_on op) e)

  pub count_step : way_of op ≡ way.Dip → (t b : Node) → ns ≡ t ∷ b ∷ [] → (n : ℕ) → Some n ≡ a_count 0 count_limit (tree t) → (r : Option (List Entry)) →
      r ≡ dip_walk n (tree b) (at + 1 + size (tree t)) c A es → r ≡ step
  count_step h t b e n g r f =
      f
      ∙ of_dip (λ op. dip_walk n (tree b) (at + 1 + size (tree t)) c A es ≡ step_on op (t ∷ b ∷ []))
      (counted_walked annots (tree b) at c (tree t) n A es (count_found 0 count_limit 1 (tree t) n g)) op h
      ∙ sym (ap (step_on op) e)

  pub no_count : way_of op ≡ way.Dip → (t b : Node) → ns ≡ t ∷ b ∷ [] → None ≡ a_count 0 count_limit (tree t) → None ≡ step
  no_count h t b e g =
      of_dip (λ op. None ≡ step_on op (t ∷ b ∷ [])) (sym (uncounted_walked annots (tree b) at c (tree t) 1 A es (count_fault 0 count_limit 1 (tree t) g))) op h
      ∙ sym (ap (step_on op) e)

  pub no_dip : way_of op ≡ way.Dip → IsNotOne ns → IsNotTwo ns → None ≡ step
  no_dip h f g = of_dip (λ op. None ≡ step_on op ns) (sym (ap (by_dip (trees ns) at c A es) (not_a_dip ns f g))) op h

  pub map_step : way_of op ≡ way.Map → AreSmall es → (b : Node) → ns ≡ b ∷ [] → (r : Option (List Entry)) → r ≡ map_walk (tree b) (at + 1) c A es → r ≡ step
  map_step h s b e r f =
      f ∙ of_map (λ op. map_walk (tree b) (at + 1) c A es ≡ step_on op (b ∷ [])) (map_walked annots (tree b) at c A es s) op h
      ∙ sym (ap (step_on op) e)

  pub no_map : way_of op ≡ way.Map → IsNotOne ns → None ≡ step
  no_map h g =
      of_map (λ op. None ≡ step_on op ns)
      (not_one ns g (λ b. on_mapped A (λ a new A. mapped (b c (a ∷ A)) new A)) (past (inner_by (Some p.OpMap) (trees ns) at c A) es)) op h

  -- LAMBDA or LAMBDA_REC whose types are read so
  lambda_by : (q : Bool) → way_of op ≡ lambda_way q → (t u b : Tree) → AreSmall es → (a r : Kind) →
      lambda_of (more t (more u (more b none))) ≡ found record { argument = a; result = r } →
      lambda_walk q a r b (at + 1 + size t + size u) A es ≡ step_by (Some op) annots (more t (more u (more b none))) at c A es
  lambda_by false h t u b s a r g =
      of_lambda (λ op. lambda_walk false a r b (at + 1 + size t + size u) A es ≡ step_by (Some op) annots (more t (more u (more b none))) at c A es)
      (lambda_walked annots t u b at c A es a r s g) op h
  lambda_by true h t u b s a r g =
      of_rec (λ op. lambda_walk true a r b (at + 1 + size t + size u) A es ≡ step_by (Some op) annots (more t (more u (more b none))) at c A es)
      (rec_walked annots t u b at c A es a r s g) op h

  lambda_fault : (q : Bool) → way_of op ≡ lambda_way q → (ts : Trees) (l : ℕ) → lambda_of ts ≡ fault l → None ≡ step_by (Some op) annots ts at c A es
  lambda_fault false h ts l g = of_lambda (λ op. None ≡ step_by (Some op) annots ts at c A es) (sym (ap (by_arrow ts at A es) g)) op h
  lambda_fault true h ts l g = of_rec (λ op. None ≡ step_by (Some op) annots ts at c A es) (sym (ap (by_rec ts at A es) g)) op h

  module _ (q : Bool) (h : way_of op ≡ lambda_way q) where
    pub no_lambda : IsNotThree ns → None ≡ step
    no_lambda g = lambda_fault q h (trees ns) 0 (not_three ns g)

    module _ (t u b : Node) (e : ns ≡ t ∷ u ∷ b ∷ []) where
      pub lambda_step : AreSmall es → (a r : Kind) → Some a ≡ a_kind (type_at 1 (tree t)) → Some r ≡ a_kind (type_at (1 + size (tree t)) (tree u)) →
          (x : Option (List Entry)) → x ≡ lambda_walk q a r (tree b) (at + 1 + size (tree t) + size (tree u)) A es → x ≡ step
      lambda_step s a r f g x w =
          w ∙ lambda_by q h (tree t) (tree u) (tree b) s a r (arrow_found (tree t) (tree u) (tree b) a r f g) ∙ sym (ap (step_on op) e)

      pub argument_fault : None ≡ a_kind (type_at 1 (tree t)) → None ≡ step
      argument_fault f =
          let g : IsFault (lambda_of (trees (t ∷ u ∷ b ∷ []))) = no_argument (tree t) (tree u) (tree b) f in
          lambda_fault q h (trees (t ∷ u ∷ b ∷ [])) g.0 g.1 ∙ sym (ap (step_on op) e)

      pub result_fault : (a : Kind) → Some a ≡ a_kind (type_at 1 (tree t)) → None ≡ a_kind (type_at (1 + size (tree t)) (tree u)) → None ≡ step
      result_fault a f k =
          let g : IsFault (lambda_of (trees (t ∷ u ∷ b ∷ []))) = no_result (tree t) (tree u) (tree b) a f k in
          lambda_fault q h (trees (t ∷ u ∷ b ∷ [])) g.0 g.1 ∙ sym (ap (step_on op) e)
