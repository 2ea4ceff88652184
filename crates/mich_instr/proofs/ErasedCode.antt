-- Typed code is erased to the node that it is the code of, without the annotations that have no effect.
use Rattle.std.proofs.Common.{◌≡◌, ℕ, Bool, true, false, List, [], Some, refl, sym, ap, ◌∙◌}
use Rattle.std.specs.Prelude.{codes}
use Rattle.rules_text.specs.nodes.Tree.{Tree, int, str, bytes, prim, seq, Trees, none, more}
use Rattle.rules_text.specs.nodes.Primitives.{primitive_names, code_of_primitive, primitive_of_name}
use Rattle.rules_text.specs.declared.nodes.Primitive.{Primitive}
use Rattle.rules_text.specs.declared.nodes.Primitive.TheVariants as p
use Rattle.rules_data.specs.types.Kind.{Kind}
use Rattle.rules_code.specs.instructions.Arguments.{found, count_argument}
use Rattle.rules_code.specs.instructions.Context.{Context}
use Rattle.rules_code.specs.instructions.Forms.{form_of}
use Rattle.rules_code.specs.instructions.Forms as f
use Rattle.mich_instr.specs.Code.{Code, Codes}
use Rattle.mich_instr.specs.Erased.{erased, all_erased, one, two, lambda_name}
use Rattle.mich_instr.specs.Plain.{bare, kept, plain, plains, plain_arguments, plain_application}
use Rattle.mich_instr.specs.Typed.{HasForm, lambda_form, IsCode, AreCode}
use Rattle.mich_instr.specs.Typed as typed
use Rattle.mich_instr.proofs.Names.{word, name_is, formed}

-- the names as they are written
abbrev pub is_word : Primitive → List ℕ → Type 0
is_word x name = word x ≡ name

application_is : (name : List ℕ) (annots : List (List ℕ)) (ts bodies : Trees) (x : Primitive) → primitive_of_name name ≡ Some x →
    plain_application name annots ts bodies ≡ prim (word x) (kept (Some x) annots) (plain_arguments (form_of (Some x)) ts bodies)
application_is name annots ts bodies x e =
    ap (λ n. prim n (kept (primitive_of_name name) annots) (plain_arguments (form_of (primitive_of_name name)) ts bodies)) (name_is name x e)
    ∙ ap (λ o. prim (word x) (kept o annots) (plain_arguments (form_of o) ts bodies)) e

push_word : word p.OpPush ≡ codes "PUSH"
unfolding primitive_names code_of_primitive
push_word = refl

dip_word : word p.OpDip ≡ codes "DIP"
unfolding primitive_names code_of_primitive
dip_word = refl

lambda_word : word p.OpLambda ≡ codes "LAMBDA"
unfolding primitive_names code_of_primitive
lambda_word = refl

lambda_rec_word : word p.OpLambdaRec ≡ codes "LAMBDA_REC"
unfolding primitive_names code_of_primitive
lambda_rec_word = refl

exec_word : word p.OpExec ≡ codes "EXEC"
unfolding primitive_names code_of_primitive
exec_word = refl

apply_word : word p.OpApply ≡ codes "APPLY"
unfolding primitive_names code_of_primitive
apply_word = refl

if_word : word p.OpIf ≡ codes "IF"
unfolding primitive_names code_of_primitive
if_word = refl

if_none_word : word p.OpIfNone ≡ codes "IF_NONE"
unfolding primitive_names code_of_primitive
if_none_word = refl

if_left_word : word p.OpIfLeft ≡ codes "IF_LEFT"
unfolding primitive_names code_of_primitive
if_left_word = refl

if_cons_word : word p.OpIfCons ≡ codes "IF_CONS"
unfolding primitive_names code_of_primitive
if_cons_word = refl

loop_word : word p.OpLoop ≡ codes "LOOP"
unfolding primitive_names code_of_primitive
loop_word = refl

loop_left_word : word p.OpLoopLeft ≡ codes "LOOP_LEFT"
unfolding primitive_names code_of_primitive
loop_left_word = refl

iter_word : word p.OpIter ≡ codes "ITER"
unfolding primitive_names code_of_primitive
iter_word = refl

map_word : word p.OpMap ≡ codes "MAP"
unfolding primitive_names code_of_primitive
map_word = refl

failwith_word : word p.OpFailwith ≡ codes "FAILWITH"
unfolding primitive_names code_of_primitive
failwith_word = refl

never_word : word p.OpNever ≡ codes "NEVER"
unfolding primitive_names code_of_primitive
never_word = refl

self_word : word p.OpSelf ≡ codes "SELF"
unfolding primitive_names code_of_primitive
self_word = refl

create_word : word p.OpCreateContract ≡ codes "CREATE_CONTRACT"
unfolding primitive_names code_of_primitive
create_word = refl

-- an instruction of a primitive, by its name
by_word : (name : List ℕ) (annots : List (List ℕ)) (ts bodies : Trees) (x : Primitive) (w : List ℕ) → primitive_of_name name ≡ Some x → word x ≡ w →
    plain_application name annots ts bodies ≡ prim w (kept (Some x) annots) (plain_arguments (form_of (Some x)) ts bodies)
by_word name annots ts bodies x w e h =
    application_is name annots ts bodies x e ∙ ap (λ n. prim n (kept (Some x) annots) (plain_arguments (form_of (Some x)) ts bodies)) h

-- a count is a number
count_is_plain : (least most at : ℕ) (t : Tree) (n : ℕ) → count_argument least most at t ≡ found n → plain t ≡ t
count_is_plain least most at (int m) n e = refl
count_is_plain least most at (str s) n e = absurd cc
count_is_plain least most at (bytes b) n e = absurd cc
count_is_plain least most at (prim name annots ts) n e = absurd cc
count_is_plain least most at (seq ts) n e = absurd cc

lambda_plain : (recursive : Bool) (name : List ℕ) (annots : List (List ℕ)) (t u w : Tree) → HasForm (lambda_form recursive) name →
    prim (lambda_name recursive) [] (more (bare t) (more (bare u) (more w none))) ≡ plain (prim name annots (more t (more u (more w none))))
lambda_plain true name annots t u w h = sym (by_word name annots _ _ p.OpLambdaRec _ (formed name f.lambda_rec h (λ e. cc)) lambda_rec_word)
lambda_plain false name annots t u w h = sym (by_word name annots _ _ p.OpLambda _ (formed name f.lambda h (λ e. cc)) lambda_word)

two_bodies : (w : List ℕ) (is js : Codes) (ts us : Trees) → all_erased is ≡ plains ts → all_erased js ≡ plains us →
    prim w [] (two (seq (all_erased is)) (seq (all_erased js))) ≡ prim w [] (more (seq (plains ts)) (more (seq (plains us)) none))
two_bodies w is js ts us e g = ap (λ x. prim w [] (two (seq x) (seq (all_erased js)))) e ∙ ap (λ x. prim w [] (two (seq (plains ts)) (seq x))) g

one_body : (w : List ℕ) (is : Codes) (ts : Trees) → all_erased is ≡ plains ts → prim w [] (one (seq (all_erased is))) ≡ prim w [] (more (seq (plains ts)) none)
one_body w is ts e = ap (λ x. prim w [] (one (seq x))) e

mutual
  pub erased_plain : {c : Context} {t : Tree} {i : Code} {A B : List Kind} → IsCode c t i A B → erased i ≡ plain t
  erased_plain (typed.is_seq h) = ap seq (all_plain h)
  erased_plain (typed.is_straight h e) = refl
  erased_plain (typed.is_transfer h e g) = refl
  erased_plain (typed.is_push {name = name} {annots = annots} h e g reads held) = sym (by_word name annots _ _ p.OpPush _ (formed name f.push h (λ x. cc)) push_word)
  erased_plain (typed.is_dip {name = name} {annots = annots} {ts = ts} {is = is} h le b) =
      one_body _ is ts (all_plain b) ∙ sym (by_word name annots _ _ p.OpDip _ (formed name f.dip h (λ x. cc)) dip_word)
  erased_plain (typed.is_dip_by {name = name} {annots = annots} {t = t} {ts = ts} {n = n} {is = is} h e le b) =
      ap (λ x. prim (codes "DIP") [] (two t (seq x))) (all_plain b) ∙ ap (λ x. prim (codes "DIP") [] (two x (seq (plains ts)))) (sym (count_is_plain _ _ _ t n e))
      ∙ sym (by_word name annots _ _ p.OpDip _ (formed name f.dip h (λ x. cc)) dip_word)
  erased_plain (typed.is_lambda {name = name} {annots = annots} {recursive = recursive} {t = t} {u = u} {ts = ts} h e b) =
      lambda_plain recursive name annots t u (seq ts) h
  erased_plain (typed.is_exec {name = name} {annots = annots} h) = sym (by_word name annots _ _ p.OpExec _ (formed name f.exec h (λ x. cc)) exec_word)
  erased_plain (typed.is_apply {name = name} {annots = annots} h) = sym (by_word name annots _ _ p.OpApply _ (formed name f.apply h (λ x. cc)) apply_word)
  erased_plain (typed.is_if {name = name} {annots = annots} {ts = ts} {us = us} {is = is} {js = js} h a b) =
      two_bodies _ is js ts us (all_plain a) (all_plain b) ∙ sym (by_word name annots _ _ p.OpIf _ (formed name f.if_bool h (λ x. cc)) if_word)
  erased_plain (typed.is_if_none {name = name} {annots = annots} {ts = ts} {us = us} {is = is} {js = js} h a b) =
      two_bodies _ is js ts us (all_plain a) (all_plain b) ∙ sym (by_word name annots _ _ p.OpIfNone _ (formed name f.if_none h (λ x. cc)) if_none_word)
  erased_plain (typed.is_if_left {name = name} {annots = annots} {ts = ts} {us = us} {is = is} {js = js} h a b) =
      two_bodies _ is js ts us (all_plain a) (all_plain b) ∙ sym (by_word name annots _ _ p.OpIfLeft _ (formed name f.if_left h (λ x. cc)) if_left_word)
  erased_plain (typed.is_if_cons {name = name} {annots = annots} {ts = ts} {us = us} {is = is} {js = js} h a b) =
      two_bodies _ is js ts us (all_plain a) (all_plain b) ∙ sym (by_word name annots _ _ p.OpIfCons _ (formed name f.if_cons h (λ x. cc)) if_cons_word)
  erased_plain (typed.is_loop {name = name} {annots = annots} {ts = ts} {is = is} h b) =
      one_body _ is ts (all_plain b) ∙ sym (by_word name annots _ _ p.OpLoop _ (formed name f.loop h (λ x. cc)) loop_word)
  erased_plain (typed.is_loop_left {name = name} {annots = annots} {ts = ts} {is = is} h b) =
      one_body _ is ts (all_plain b) ∙ sym (by_word name annots _ _ p.OpLoopLeft _ (formed name f.loop_left h (λ x. cc)) loop_left_word)
  erased_plain (typed.is_iter {name = name} {annots = annots} {ts = ts} {is = is} h s b) =
      one_body _ is ts (all_plain b) ∙ sym (by_word name annots _ _ p.OpIter _ (formed name f.iter h (λ x. cc)) iter_word)
  erased_plain (typed.is_map {name = name} {annots = annots} {ts = ts} {is = is} h s e b) =
      one_body _ is ts (all_plain b) ∙ sym (by_word name annots _ _ p.OpMap _ (formed name f.map h (λ x. cc)) map_word)
  erased_plain (typed.is_failwith {name = name} {annots = annots} h) = sym (by_word name annots _ _ p.OpFailwith _ (formed name f.failwith h (λ x. cc)) failwith_word)
  erased_plain (typed.is_never {name = name} {annots = annots} h) = sym (by_word name annots _ _ p.OpNever _ (formed name f.never h (λ x. cc)) never_word)
  erased_plain (typed.is_self {name = name} {annots = annots} h e g) =
      ap (λ o. prim (codes "SELF") (kept o annots) none) (formed name f.self h (λ x. cc)) ∙ sym (by_word name annots _ _ p.OpSelf _ (formed name f.self h (λ x. cc)) self_word)
  erased_plain (typed.is_create {name = name} {annots = annots} h e s) =
      sym (by_word name annots _ _ p.OpCreateContract _ (formed name f.create_contract h (λ x. cc)) create_word)

  pub all_plain : {c : Context} {ts : Trees} {is : Codes} {A B : List Kind} → AreCode c ts is A B → all_erased is ≡ plains ts
  all_plain typed.no_code = refl
  all_plain (typed.more_code {t = t} {ts = ts} {i = i} {is = is} h g) = ap (λ x. more x (all_erased is)) (erased_plain h) ∙ ap (more (plain t)) (all_plain g)
