-- Instructions that give what is written in their arguments: the types after each are those of its typing.
use Rattle.std.proofs.Common.{◌≡◌, ℕ, ◌+◌, Bool, true, false, List, [], ◌∷◌, ◌++◌, Option, Some, None, refl, sym, ap, ◌∙◌, subst}
use Rattle.std.specs.Prelude.{pos, nat_le, if◌then◌else◌}
use Rattle.std.specs.List.{flat_map}
use Rattle.rules_text.specs.nodes.Limits.{type_limit}
use Rattle.rules_text.specs.nodes.Tree.{Trees, none, more, size}
use Rattle.rules_text.specs.declared.nodes.Primitive.{Primitive}
use Rattle.rules_data.specs.forms.Spelling.{contract_place, spelled_address}
use Rattle.rules_data.specs.declared.gas.Kind.{Kind as Priced}
use Rattle.rules_data.specs.declared.gas.Kind.TheVariants as g
use Rattle.rules_data.specs.types.Kind.{Kind, nodes}
use Rattle.rules_data.specs.types.Kind as k
use Rattle.rules_data.specs.types.Attributes.{pushable}
use Rattle.rules_data.specs.types.Entrypoints.{Entry, find_entry}
use Rattle.rules_code.specs.instructions.Types as t
use Rattle.rules_code.specs.instructions.Same.{same_kind, same_kinds}
use Rattle.rules_code.specs.instructions.Arguments.{Found, found, fault, type_argument}
use Rattle.rules_code.specs.instructions.Context.{Context}
use Rattle.rules_code.specs.instructions.Context as place
use Rattle.rules_code.specs.instructions.Control.{Pushed, push_of, lambda_of, call_kinds, self_of}
use Rattle.rules_code.specs.instructions.Forms as f
use Rattle.rules_data.specs.values.Val.{Val}
use Rattle.rules_data.specs.values.Val as v
use Rattle.rules_data.specs.values.Tickets.{tickets}
use Rattle.rules_data.specs.values.Weight.{weight}
use Rattle.rules_data.specs.values.Literals.{Literal, read}
use Rattle.rules_data.specs.values.Literals as read
use Rattle.rules_code.specs.typing.Typing.{Typing, goes, fails, bad, Typer, made, ends}
use Rattle.rules_code.specs.typing.Typing as typing
use Rattle.rules_code.specs.typing.Bodies.{bodies_fault}
use Rattle.rules_code.specs.typing.Scripts.{Script}
use Rattle.rules_code.specs.typing.Stacks as stacks
use Rattle.rules_code.specs.typing.Acts.{Meanings, one_body, last_body, outside_views, unless_fault, of_literal, push_type, lambda_type, lambda_rec_type, of_entry, self_type, of_script, act_type}
use Rattle.rules_code.specs.steps.Changes.{amount_among}
use Rattle.rules_code.specs.evaluation.Operations.{origination, new_contract}
use Rattle.rules_code.specs.evaluation.Outcome.{Outcome}
use Rattle.rules_code.specs.evaluation.Given.{value_of, push_run, body_of, lambda_run, self_run, script_of, on_delegate, on_origination, create_run}
use Rattle.rules_code.specs.evaluation.Issuing.{with_origination}
use Rattle.laws_tickets.specs.totals.Agreement.{Agrees, AllAgree}
use Rattle.laws_tickets.proofs.totals.ForCallers.{on_cons, nothing_pushed, AllFound, HasAttribute, type_argument_all, and_then_both, AllRead, read_agrees}
use Rattle.laws_tickets.proofs.runs_lemmas.Stands.{Aim, Keeps, KeepsRun, restands, AllGoes, keeps_unless, keeps_found, keeps_goes, keeps_charge, keeps_paid, keeps_issue}

-- ---- what typings give

goes_where : (P : List Kind → Type 0) (b : Bool) (u : Typing) (l : ℕ) → AllGoes P u → AllGoes P (if b then u else bad l)
goes_where P true u l h = h
goes_where P false u l h = tt

goes_made : (P : List Kind → Type 0) (a : Kind) (A : List Kind) → P (a ∷ A) → AllGoes P (made a A)
goes_made P a A h = goes_where P (nat_le (nodes a) type_limit) (goes (a ∷ A)) 0 h

goes_ends : (P : List Kind → Type 0) (u : Typing) (C : List Kind) (w : Typing) → AllGoes P w → AllGoes P (ends u C w)
goes_ends P (goes B) C w h = goes_where P (same_kinds B C) w 0 h
goes_ends P fails C w h = h
goes_ends P (bad l) C w h = tt

goes_found : {A : Type 0} (P : List Kind → Type 0) (x : Found A) (next : A → Typing) → ((y : A) → AllGoes P (next y)) →
    AllGoes P (typing.on_found x next)
goes_found P (found y) next h = h y
goes_found P (fault l) next h = tt

goes_last : (P : List Kind → Type 0) (bs : List Typer) (next : Typer → Typing) → ((b : Typer) → AllGoes P (next b)) →
    AllGoes P (last_body bs next)
goes_last P [] next h = tt
goes_last P (b ∷ []) next h = h b
goes_last P (b ∷ c ∷ bs) next h = goes_last P (c ∷ bs) next h

goes_one : (P : List Kind → Type 0) (bs : List Typer) (next : Typer → Typing) → ((b : Typer) → AllGoes P (next b)) →
    AllGoes P (one_body bs next)
goes_one P (b ∷ []) next h = h b
goes_one P [] next h = tt
goes_one P (b ∷ c ∷ bs) next h = tt

goes_outside : (P : List Kind → Type 0) (c : Context) (u : Typing) → AllGoes P u → AllGoes P (outside_views c u)
goes_outside P place.view u h = tt
goes_outside P (place.main es) u h = h
goes_outside P place.lambda u h = h

-- ---- PUSH

pushed_all : (ts : Trees) → AllFound (λ p. HasAttribute pushable p.kind) (push_of ts)
pushed_all (more t (more x none)) =
    and_then_both (HasAttribute pushable) (λ (p : Pushed). HasAttribute pushable p.kind) (type_argument pushable 1 t)
    (λ a. found (record { kind = a; location = 1 + size t; literal = x })) (type_argument_all pushable 1 t) (λ a h. h)
pushed_all none = tt
pushed_all (more t none) = tt
pushed_all (more t (more x (more y ts))) = tt

found_is : {A : Type 0} (P : A → Type 0) (o : Found A) (x : A) → AllFound P o → o ≡ found x → P x
found_is P (found y) x h e = let f : y ≡ x = cc in subst P f h
found_is P (fault l) x h e = absurd cc

goes_fault : (P : List Kind → Type 0) (o : Option ℕ) (u : Typing) → AllGoes P u → AllGoes P (unless_fault o u)
goes_fault P None u h = h
goes_fault P (Some l) u h = tt

-- the types after PUSH have its type on those before
abbrev IsOn : Kind → List Kind → List Kind → Type 0
IsOn a A B = B ≡ a ∷ A

goes_literal : (typing_at : ℕ → Typer) (a : Kind) (A : List Kind) (x : Literal Val) →
    AllGoes (IsOn a A) (of_literal typing_at a A x)
goes_literal typing_at a A (read.good x ps) = goes_fault (IsOn a A) (bodies_fault (λ l t. typing_at l) ps) (goes (a ∷ A)) refl
goes_literal typing_at a A (read.bad l) = tt

goes_push : (o : Found Pushed) (p : Pushed) (typing_at : ℕ → Typer) (A : List Kind) → o ≡ found p →
    AllGoes (IsOn p.kind A) (typing.on_found o (λ q. push_type q typing_at A))
goes_push (found q) p typing_at A e =
    let f : q ≡ p = cc in
    subst (λ z. AllGoes (IsOn z.kind A) (push_type q typing_at A)) f
    (goes_literal typing_at q.kind A (read q.kind q.location q.literal))
goes_push (fault l) p typing_at A e = absurd cc

value_agrees : (a : Kind) (o : Literal Val) (x : Val) → AllRead (Agrees a) o → value_of o ≡ Some x → Agrees a x
value_agrees a (read.good y ps) x h e = let f : y ≡ x = cc in subst (λ z. Agrees a z) f h
value_agrees a (read.bad l) x h e = absurd cc

module _ (name : Option Primitive) (annots : List (List ℕ)) (ts : Trees) (w : Meanings) where
  pub keeps_push : KeepsRun (λ e d A V m. push_run ts (act_type f.push name annots ts w e.context A) e d A V m)
  keeps_push e d A V m p sees s =
      keeps_found p (push_of ts) _ (λ q u. keeps_unless p (value_of (read q.kind q.location q.literal)) _ (λ x i.
      let h = found_is (λ (r : Pushed). HasAttribute pushable r.kind) (push_of ts) q (pushed_all ts) u in
      let j : Agrees q.kind x = value_agrees q.kind (read q.kind q.location q.literal) x (read_agrees q.kind h.1 q.location q.literal) i in
      keeps_goes p (IsOn q.kind A) (act_type f.push name annots ts w e.context A) _ (goes_push (push_of ts) q w.typing_at A u)
      (λ B o.
      keeps_charge p p A V e.prices g.Push (weight x) m _ s (λ n l.
      restands B (x ∷ V) (subst (λ C. AllAgree C (x ∷ V)) (sym o) (j, l.agree))
      (ap (λ xs. xs ++ flat_map tickets V) (nothing_pushed q.kind x h.0 j)) l))))

  -- ---- LAMBDA and LAMBDA_REC

  -- a lambda's type on those before
  abbrev IsLambdaOn : List Kind → List Kind → Type 0
  IsLambdaOn A B = (a r : Kind) × (B ≡ k.lambda a r ∷ A)

  keeps_function : (kind : Priced) (self : Bool) (u : Context → List Kind → Typing) →
      ((c : Context) (A : List Kind) → AllGoes (IsLambdaOn A) (u c A)) →
      KeepsRun (λ e d A V m. lambda_run kind self ts (u e.context A) e d A V m)
  keeps_function kind self u h e d A V m p sees s =
      keeps_unless p (body_of ts) _ (λ body i. keeps_goes p (IsLambdaOn A) (u e.context A) _ (h e.context A)
      (λ B o. keeps_paid p p A V e kind m _ s (λ n l.
      restands B (v.lambda body self ∷ V) (subst (λ C. AllAgree C (v.lambda body self ∷ V)) (sym o.2) (tt, l.agree)) refl l)))

  pub keeps_lambda : KeepsRun (λ e d A V m. lambda_run g.Lambda false ts (act_type f.lambda name annots ts w e.context A) e d A V m)
  keeps_lambda = keeps_function g.Lambda false (λ c A. act_type f.lambda name annots ts w c A) (λ c A.
      goes_found (IsLambdaOn A) (lambda_of ts) (λ x. last_body w.bodies (λ b. lambda_type x b A)) (λ x.
      goes_last (IsLambdaOn A) w.bodies (λ b. lambda_type x b A) (λ b.
      goes_ends (IsLambdaOn A) (b place.lambda (x.argument ∷ [])) (x.result ∷ []) (made (k.lambda x.argument x.result) A)
      (goes_made (IsLambdaOn A) (k.lambda x.argument x.result) A (x.argument, x.result, refl)))))

  pub keeps_lambda_rec : KeepsRun (λ e d A V m. lambda_run g.LambdaRec true ts (act_type f.lambda_rec name annots ts w e.context A) e d A V m)
  keeps_lambda_rec = keeps_function g.LambdaRec true (λ c A. act_type f.lambda_rec name annots ts w c A) (λ c A.
      goes_found (IsLambdaOn A) (lambda_of ts) (λ x. last_body w.bodies (λ b. lambda_rec_type x b A)) (λ x.
      goes_last (IsLambdaOn A) w.bodies (λ b. lambda_rec_type x b A) (λ b.
      goes_where (IsLambdaOn A) (nat_le (nodes (k.lambda x.argument x.result)) type_limit)
      (ends (b place.lambda (call_kinds x.argument x.result true)) (x.result ∷ []) (goes (k.lambda x.argument x.result ∷ A))) 0
      (goes_ends (IsLambdaOn A) (b place.lambda (call_kinds x.argument x.result true)) (x.result ∷ [])
      (goes (k.lambda x.argument x.result ∷ A)) (x.argument, x.result, refl)))))

  -- ---- SELF

  -- a contract's type on those before
  abbrev IsContractOn : List Kind → List Kind → Type 0
  IsContractOn A B = (a : Kind) × (B ≡ k.contract a ∷ A)

  goes_entry : (o : Option Entry) (A : List Kind) → AllGoes (IsContractOn A) (of_entry o A)
  goes_entry None A = tt
  goes_entry (Some x) A = goes_made (IsContractOn A) (k.contract x.kind) A (x.kind, refl)

  goes_self : (entry : List ℕ) (c : Context) (A : List Kind) → AllGoes (IsContractOn A) (self_type entry c A)
  goes_self entry (place.main es) A = goes_entry (find_entry entry es) A
  goes_self entry place.view A = tt
  goes_self entry place.lambda A = tt

  pub keeps_self : KeepsRun (λ e d A V m. self_run annots ts (act_type f.self name annots ts w e.context A) e d A V m)
  keeps_self e d A V m p sees s =
      keeps_found p (self_of annots ts) _ (λ entry i. keeps_goes p (IsContractOn A)
      (act_type f.self name annots ts w e.context A) _
      (goes_found (IsContractOn A) (self_of annots ts) (λ entry. self_type entry e.context A)
      (λ entry. goes_self entry e.context A)) (λ B o.
      keeps_paid p p A V e g.SelfContract m _ s (λ n l.
      restands B (v.bytes (spelled_address (contract_place e.environment.own) entry) ∷ V)
      (subst (λ C. AllAgree C (v.bytes (spelled_address (contract_place e.environment.own) entry) ∷ V)) (sym o.1)
      (tt, l.agree)) refl l)))

  -- ---- CREATE_CONTRACT

  -- an operation and an address in place of a delegate, an amount and a storage
  abbrev IsOrigination : List Kind → List Kind → Type 0
  IsOrigination A B =
      (a : Kind) × (C : List Kind) × (A ≡ k.option t.key_hash ∷ t.mutez ∷ a ∷ C) × (B ≡ k.operation ∷ t.address ∷ C)

  goes_script : (o : Found Script) (a : Kind) (A C : List Kind) → A ≡ k.option t.key_hash ∷ t.mutez ∷ a ∷ C →
      AllGoes (IsOrigination A) (of_script o a C)
  goes_script (found s) a A C e =
      goes_where (IsOrigination A) (same_kind s.storage a) (goes (k.operation ∷ t.address ∷ C)) 0 (a, C, e, refl)
  goes_script (fault l) a A C e = tt

  goes_origination : (A : List Kind) → AllGoes (IsOrigination A) (stacks.on_origination A (λ a C. of_script (w.script 1) a C))
  goes_origination (k.option t.key_hash ∷ t.mutez ∷ a ∷ C) =
      goes_script (w.script 1) a (k.option t.key_hash ∷ t.mutez ∷ a ∷ C) C refl
  goes_origination _ = tt

-- a value and those below it, where a delegate and an amount were above
record IsHanded (A : List Kind) (V : List Val) (y : Val) (W : List Val) : Type 0 where
  agree : AllAgree A (y ∷ W)
  same : flat_map tickets V ≡ flat_map tickets (y ∷ W)

keeps_delegate : (p : Aim) (x : Val) (V : List Val) (go : Option (List ℕ) → Outcome) →
    (tickets x ≡ [] → (o : Option (List ℕ)) → Keeps p (go o)) → Keeps p (on_delegate x go)
keeps_delegate p v.nothing V go h = h refl None
keeps_delegate p (v.some (v.bytes b)) V go h = h refl (Some b)
keeps_delegate p _ V go h = tt

keeps_origination : (p : Aim) (a : Kind) (C : List Kind) (V : List Val) (go : Option (List ℕ) → ℕ → Val → List Val → Outcome) →
    AllAgree (k.option t.key_hash ∷ t.mutez ∷ a ∷ C) V →
    ((o : Option (List ℕ)) (n : ℕ) (y : Val) (W : List Val) → IsHanded (a ∷ C) V y W → Keeps p (go o n y W)) → Keeps p
    (on_origination V go)
keeps_origination p a C (x ∷ v.number (pos n) ∷ y ∷ W) go g h =
    keeps_delegate p x W (λ o. go o n y W) (λ e o. h o n y W
    (record { agree = g.1.1; same = ap (λ ts. ts ++ flat_map tickets (y ∷ W)) e }))
keeps_origination p a C _ go g h = tt

module _ (name : Option Primitive) (annots : List (List ℕ)) (ts : Trees) (w : Meanings) where
  pub keeps_create : KeepsRun (λ e d A V m. create_run ts (act_type f.create_contract name annots ts w e.context A) e d A V m)
  keeps_create e d A V m p sees s =
      keeps_unless p (script_of ts) _ (λ script i. keeps_goes p (IsOrigination name annots ts w A)
      (act_type f.create_contract name annots ts w e.context A) _
      (goes_outside (IsOrigination name annots ts w A) e.context
      (one_body w.bodies (λ b. stacks.on_origination A (λ a C. of_script (w.script 1) a C)))
      (goes_one (IsOrigination name annots ts w A) w.bodies (λ b. stacks.on_origination A (λ a C. of_script (w.script 1) a C))
      (λ b. goes_origination name annots ts w A)))
      (λ B o. keeps_origination p o.0 o.1 V _ (subst (λ D. AllAgree D V) o.2 s.agree) (λ delegate n y W h.
      keeps_paid p p A V e g.CreateContract m _ s (λ j l.
      let hash = new_contract e.group j.originations in
      keeps_issue p A V (origination delegate n script y hash) (t.address ∷ o.1) (v.bytes (contract_place hash) ∷ W)
      (with_origination j) _
      (record { agree = l.agree; same = l.same; numbers = l.numbers; many = l.many }) (refl, h.agree.1)
      (λ id. ap (amount_among id) h.same ∙ on_cons id y W)
      (λ c q r. restands B (v.operation c ∷ v.bytes (contract_place hash) ∷ W)
      (subst (λ D. AllAgree D (v.operation c ∷ v.bytes (contract_place hash) ∷ W)) (sym o.3) r.agree) refl r)))))
