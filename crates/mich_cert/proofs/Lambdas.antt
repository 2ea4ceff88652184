-- The walk over the bodies of lambdas.
use Rattle.std.proofs.Common.{◌≡◌, ℕ, ◌+◌, ◌-◌, Bool, true, false, cond, nat_le, Option, Some, None, List, [], ◌∷◌, ◌++◌, refl, sym, ap, ◌∙◌}
use Rattle.std.specs.Prelude.{option_and_then, slice_get}
use Rattle.std.proofs.lemmas.List.{append-nil}
use Rattle.rules_text.specs.declared.nodes.Primitive.TheVariants as p
use Rattle.rules_text.specs.nodes.Limits.{type_limit}
use Rattle.rules_text.specs.nodes.Tree.{Tree, none, more, size}
use Rattle.rules_data.specs.types.Kind.{Kind, nodes}
use Rattle.rules_data.specs.types.Kind as k
use Rattle.rules_code.specs.instructions.Arguments.{Found, found}
use Rattle.rules_code.specs.instructions.Context.{Context}
use Rattle.rules_code.specs.instructions.Context as place
use Rattle.rules_code.specs.instructions.Control.{Arrow, lambda_of, call_kinds}
use Rattle.rules_code.specs.instructions.Same.{same_kinds}
use Rattle.rules_code.specs.typing.Acts.{lambda_type, lambda_rec_type}
use Rattle.rules_code.specs.typing.Nodes.{body}
use Rattle.rules_code.specs.typing.Typing.{goes, bad, made}
use Rattle.rules_code.specs.typing.Typing as typing
use Rattle.rules_code.specs.certificates.Blocks.{block}
use Rattle.rules_code.specs.certificates.Blocks as blocks_of
use Rattle.rules_code.specs.certificates.Derivation.{Entry, block_entries, of_blocks, tellers, told_by}
use Rattle.mich_cert.specs.Table.{written}
use Rattle.mich_cert.specs.Walk.{past, leading, step_by, AreSmall, arrow, call_begins, call_ends, lambda_walk}
use Rattle.mich_cert.specs.declared.words.Word.TheVariants as w
use Rattle.mich_cert.proofs.Loops.{ends_with, turning, body_turned}
use Rattle.mich_cert.proofs.Small.{ends_past, rec_past}
use Rattle.mich_cert.proofs.Spelling.{nil, put, spelled, names_a, names_b, names_lambda}
use Rattle.mich_cert.proofs.Tellers.{third_told}
use Rattle.mich_cert.proofs.WrittenRows.{lambda_rules}

pub begins_are : (recursive : Bool) (a r : Kind) (B : List Kind) → call_begins recursive a r B ≡ same_kinds (call_kinds a r recursive) B
begins_are false a r B = spelled (w.A ∷ []) (arrow a r) [] (a ∷ []) (put names_a nil) B
begins_are true a r B =
    spelled (w.A ∷ w.Lambda ∷ w.A ∷ w.B ∷ []) (arrow a r) [] (a ∷ k.lambda a r ∷ []) (put names_a (put (names_lambda names_a names_b) nil)) B

pub ends_are : (a r : Kind) (o : Option (List Kind)) → call_ends a r o ≡ ends_with (r ∷ []) o
ends_are a r None = refl
ends_are a r (Some E) = spelled (w.B ∷ []) (arrow a r) [] (r ∷ []) (put names_b nil) E

pub body_called : (recursive : Bool) (a r : Kind) (b : Tree) (at j : ℕ) (A : List Kind) (es : List Entry) →
    lambda_walk recursive a r b at A es
    ≡ option_and_then (leading (typing.ends (body b j place.lambda (call_kinds a r recursive)) (r ∷ []) (goes (k.lambda a r ∷ A)))) (past (block_entries b at place.lambda (call_kinds a r recursive)) es)
body_called recursive a r b at j A es =
    ap (λ (P : List Kind → Bool). turning P (call_ends a r) (written p.OpLambda (arrow a r) A) b at place.lambda es) (λ i B. begins_are recursive a r B i)
    ∙ ap (λ (Q : Option (List Kind) → Bool). turning (same_kinds (call_kinds a r recursive)) Q (written p.OpLambda (arrow a r) A) b at place.lambda es) (λ i o. ends_are a r o i)
    ∙ ap (λ (R : List Kind → Bool). turning (same_kinds (call_kinds a r recursive)) (ends_with (r ∷ [])) R b at place.lambda es) (λ i B. lambda_rules a r A B i)
    ∙ body_turned (call_kinds a r recursive) (r ∷ []) (k.lambda a r ∷ A) b at j place.lambda es

-- what LAMBDA and LAMBDA_REC lead to, by the types of the lambda
abbrev by_arrow : Bool → Tree → Tree → Tree → ℕ → List Kind → List Entry → Found Arrow → Option (List Entry)
by_arrow false t u b at A es q =
    option_and_then (leading (typing.on_found q (λ x. lambda_type x (λ c A. body b (1 + size t + size u) c A) A)))
    (past (of_blocks (tellers (more t (more u (more b none))) (at + 1)) (blocks_of.on_found q (λ x. block (1 + size t + size u) place.lambda (x.argument ∷ []) ∷ []))) es)
by_arrow true t u b at A es q =
    option_and_then (leading (typing.on_found q (λ x. lambda_rec_type x (λ c A. body b (1 + size t + size u) c A) A)))
    (past (of_blocks (tellers (more t (more u (more b none))) (at + 1)) (blocks_of.on_found q (λ x. block (1 + size t + size u) place.lambda (call_kinds x.argument x.result true) ∷ []))) es)

module _ (annots : List (List ℕ)) (t u b : Tree) (at : ℕ) (c : Context) (A : List Kind) (es : List Entry) where
  abbrev there : List Kind → List Entry
  there S = told_by (slice_get (tellers (more t (more u (more b none))) (at + 1)) (1 + size t + size u - 1)) place.lambda S

  abbrev entries_there : List Kind → List Entry
  entries_there S = there S ++ []

  there_is : (S : List Kind) → block_entries b (at + 1 + size t + size u) place.lambda S ≡ entries_there S
  there_is S = sym (append-nil (there S) ∙ third_told t u b none (at + 1) place.lambda S)

  pub lambda_walked : (a r : Kind) → AreSmall es → lambda_of (more t (more u (more b none))) ≡ found record { argument = a; result = r } →
      lambda_walk false a r b (at + 1 + size t + size u) A es ≡ step_by (Some p.OpLambda) annots (more t (more u (more b none))) at c A es
  lambda_walked a r h e =
      body_called false a r b (at + 1 + size t + size u) (1 + size t + size u) A es
      ∙ ends_past (body b (1 + size t + size u) place.lambda (a ∷ [])) (r ∷ []) (k.lambda a r) A (block_entries b (at + 1 + size t + size u) place.lambda (a ∷ [])) es h
      ∙ ap (λ (X : List Entry). option_and_then (leading (typing.ends (body b (1 + size t + size u) place.lambda (a ∷ [])) (r ∷ []) (made (k.lambda a r) A))) (past X es)) (there_is (a ∷ []))
      ∙ sym (ap (by_arrow false t u b at A es) e)

  pub rec_walked : (a r : Kind) → AreSmall es → lambda_of (more t (more u (more b none))) ≡ found record { argument = a; result = r } →
      lambda_walk true a r b (at + 1 + size t + size u) A es ≡ step_by (Some p.OpLambdaRec) annots (more t (more u (more b none))) at c A es
  rec_walked a r h e =
      body_called true a r b (at + 1 + size t + size u) (1 + size t + size u) A es
      ∙ rec_past (body b (1 + size t + size u) place.lambda (call_kinds a r true)) (r ∷ []) (k.lambda a r) A (block_entries b (at + 1 + size t + size u) place.lambda (call_kinds a r true)) es h
      ∙ ap (λ (X : List Entry). option_and_then (leading (cond (nat_le (nodes (k.lambda a r)) type_limit) (typing.ends (body b (1 + size t + size u) place.lambda (call_kinds a r true)) (r ∷ []) (goes (k.lambda a r ∷ A))) (bad 0))) (past X es)) (there_is (call_kinds a r true))
      ∙ sym (ap (by_arrow true t u b at A es) e)
