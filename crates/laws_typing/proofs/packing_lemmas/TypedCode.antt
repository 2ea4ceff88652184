-- Each name in code that is typed is a primitive's: by the size of the code.
use Rattle.std.proofs.Common.{◌≡◌, ℕ, zero, suc, ◌+◌, ◌≤◌, true, Option, Some, None, List, [], ◌∷◌, refl, sym, subst, arith}
use Rattle.std.specs.Prelude.{nat_le, length, take, drop}
use Rattle.rules_text.specs.nodes.Limits.{type_limit, count_limit}
use Rattle.rules_text.specs.nodes.Tree.{Tree, int, str, bytes, prim, seq, Trees, none, more, size, sizes}
use Rattle.rules_text.specs.nodes.Primitives.{primitive_of_name}
use Rattle.rules_text.specs.declared.nodes.Primitive.{Primitive}
use Rattle.rules_data.specs.types.Kind.{Kind, or, list, lambda, nodes}
use Rattle.rules_data.specs.types.Attributes.{pushable}
use Rattle.rules_data.specs.types.Reading.{any_kind}
use Rattle.rules_data.specs.values.Val.{Val}
use Rattle.rules_data.specs.values.Literals.{Pending, body, claim, Literal, good, bad, read}
use Rattle.rules_code.specs.instructions.Types.{bool}
use Rattle.rules_code.specs.instructions.Context.{Context}
use Rattle.rules_code.specs.instructions.Context as place
use Rattle.rules_code.specs.instructions.Arguments.{Found, found, fault, and_then, no_argument, annotated, type_argument, count_argument}
use Rattle.rules_code.specs.instructions.Control.{Pushed, push_of, dip_of, Arrow, lambda_of, call_kinds, self_of}
use Rattle.rules_code.specs.instructions.Forms.{Form, form_of}
use Rattle.rules_code.specs.instructions.Forms as f
use Rattle.rules_code.specs.instructions.Rules.{rule}
use Rattle.rules_data.specs.forms.Spelling.{default_name}
use Rattle.rules_code.specs.typing.Typing.{Typing, goes, fails, Typer, shift, on_found, in_block, join, ends, under, mapped, made}
use Rattle.rules_code.specs.typing.Typing as typing
use Rattle.rules_code.specs.typing.Bodies.{body_fault, first_fault}
use Rattle.rules_code.specs.typing.Stacks.{on_origination}
use Rattle.rules_code.specs.typing.Acts.{no_body, one_body, two_bodies, last_body, of_rule, push_type, dip_type, lambda_type, lambda_rec_type, self_type, of_script, act_type}
use Rattle.rules_code.specs.typing.Scripts.{Script}
use Rattle.rules_code.specs.typing.Nodes.{named_type, found_at, tree_type, trees_type, bodies, script_in, script_at, sections, inner_bodies}
use Rattle.rules_code.specs.typing.Nodes as nodes
use Rattle.rules_code.specs.typing.Literals.{checked, of_reading, fault_of_bodies}
use Rattle.laws_typing.specs.literals.Laws.{AllAtMost}
use Rattle.laws_typing.proofs.literals_lemmas.ForCallers.{bodies_within, all_pushed, typing_at}
use Rattle.laws_typing.specs.packing.Laws.{IsTyped, TypedCodeHasCodes}
use Rattle.laws_typing.specs.packing.Names.{HasCodes, HaveCodes}
use Rattle.laws_typing.proofs.packing_lemmas.Known.{IsKnown, of_primitive}
use Rattle.laws_typing.proofs.packing_lemmas.Types.{argument_codes}
use Rattle.laws_typing.proofs.packing_lemmas.Literals.{AllCoded, literal_codes}
use Rattle.laws_typing.proofs.packing_lemmas.Straights.{rule_codes}
use Rattle.laws_typing.proofs.packing_lemmas.Parts.{unshifted, joined, ended, below, of_mapped, outside, tested, no_fault, on_found_typed, bool_typed, option_typed, or_typed, list_typed, parts_typed, mapped_typed, origination_typed}
use Rattle.laws_typing.proofs.packing_lemmas.Scripts.{IsHonest, AreHonest, HonestArguments, HonestSection, AllSections, sections_codes}

-- code of at most so many nodes
abbrev Upto : ℕ → Type 0
Upto n = (t : Tree) (c : Context) (A : List Kind) → size t ≤ n → IsTyped (tree_type t c A) → HasCodes t

size_some : (t : Tree) → 1 ≤ size t
size_some (int n) = omega arith
size_some (str s) = omega arith
size_some (bytes b) = omega arith
size_some (prim name annots ts) = omega arith
size_some (seq ts) = omega arith

none_below : (t : Tree) → size t ≤ 0 → ⊥
none_below t h = let one = size_some t in omega (arith, h, one)

both_none : (a b : Option ℕ) → first_fault a b ≡ None → (a ≡ None) × (b ≡ None)
both_none None b e = (refl, e)
both_none (Some l) b e = absurd cc

module _ (n : ℕ) (code : Upto n) where
  -- a block
  block_codes : (ts : Trees) (c : Context) (A : List Kind) → sizes ts ≤ n → IsTyped (trees_type ts c A) → HaveCodes ts
  block_codes none c A small h = tt
  block_codes (more t ts) c A small h =
      by (tree_type t c A) refl ts h (λ B g. block_codes ts c B (omega (arith, small)) g) (λ g. code t c A (omega (arith, small)) g)
    where
      by : (T : Typing) → tree_type t c A ≡ T → (ts : Trees) → IsTyped (in_block T ts (λ B. shift (size t) (trees_type ts c B))) →
          ((B : List Kind) → IsTyped (trees_type ts c B) → HaveCodes ts) → (IsTyped (tree_type t c A) → HasCodes t) → HaveCodes (more t ts)
      by (goes B) e ts h rest first = (first (subst IsTyped (sym e) tt), rest B (unshifted (size t) (trees_type ts c B) h))
      by fails e none h rest first = (first (subst IsTyped (sym e) tt), tt)
      by fails e (more u us) h rest first = absurd h
      by (typing.bad l) e ts h rest first = absurd h

  -- an argument as a body
  body_honest : (t : Tree) (at : ℕ) → size t ≤ suc n → IsHonest t (nodes.body t at)
  body_honest (seq ts) at small c A h = block_codes ts c A (omega (arith, small)) (unshifted (at + 1) (trees_type ts c A) h)
  body_honest (int m) at small c A h = absurd h
  body_honest (str s) at small c A h = absurd h
  body_honest (bytes b) at small c A h = absurd h
  body_honest (prim name annots ts) at small c A h = absurd h

  bodies_honest : (ts : Trees) (at : ℕ) → sizes ts ≤ suc n → AreHonest ts (bodies ts at)
  bodies_honest none at small = refl
  bodies_honest (more t ts) at small = (body_honest t at (omega (arith, small)), bodies_honest ts (at + size t) (omega (arith, small)))

  -- a script
  inner_honest : (t : Tree) (at : ℕ) → size t ≤ suc n → HonestArguments t (inner_bodies t at)
  inner_honest (prim name annots ts) at small = bodies_honest ts (at + 1) (omega (arith, small))
  inner_honest (int m) at small = tt
  inner_honest (str s) at small = tt
  inner_honest (bytes b) at small = tt
  inner_honest (seq ts) at small = tt

  sections_honest : (ts : Trees) (at : ℕ) → sizes ts ≤ suc n → AllSections HonestSection (sections ts at)
  sections_honest none at small = tt
  sections_honest (more t ts) at small = (inner_honest t at (omega (arith, small)), sections_honest ts (at + size t) (omega (arith, small)))

  all_codes : (ts : Trees) (at : ℕ) → AllSections (λ s. HasCodes s.node) (sections ts at) → HaveCodes ts
  all_codes none at h = tt
  all_codes (more t ts) at h = (h.0, all_codes ts (at + size t) h.1)

  script_codes : (t : Tree) (at : ℕ) (x : Script) → size t ≤ suc n → script_at t at ≡ found x → HasCodes t
  script_codes (seq ts) at x small e =
      all_codes ts (at + 1) (sections_codes at (sections ts (at + 1)) x (sections_honest ts (at + 1) (omega (arith, small))) e)
  script_codes (int m) at x small e = absurd cc
  script_codes (str s) at x small e = absurd cc
  script_codes (bytes b) at x small e = absurd cc
  script_codes (prim name annots ts) at x small e = absurd cc

  -- a literal with bodies
  coded : (ps : List Pending) → AllAtMost n ps → fault_of_bodies ps ≡ None → AllCoded ps
  coded [] small e = tt
  coded (body l a r recursive t ∷ ps) small e =
      let A : List Kind = call_kinds a r recursive in
      let split = both_none (body_fault l (shift l (tree_type t place.lambda A)) r) (fault_of_bodies ps) e in
      (code t place.lambda A small.0 (unshifted l (tree_type t place.lambda A) (no_fault l (shift l (tree_type t place.lambda A)) r split.0)), coded ps small.1 split.1)
  coded (claim l b a ∷ ps) small e = coded ps small e

  at_most : (m : ℕ) (ps : List Pending) → m ≤ n → AllAtMost m ps → AllAtMost n ps
  at_most m [] h g = tt
  at_most m (body l a r recursive t ∷ ps) h g = (let first = g.0 in omega (arith, h, first), at_most m ps h g.1)
  at_most m (claim l b a ∷ ps) h g = at_most m ps h g

  pub literal_tree_codes : (a : Kind) (at : ℕ) (t : Tree) (x : Val) (ps : List Pending) → size t ≤ n → read a at t ≡ good x ps → fault_of_bodies ps ≡ None → HasCodes t
  literal_tree_codes a at t x ps small e none_wrong =
      literal_codes a at t x ps e (coded ps (at_most (size t) ps small (bodies_within a at t x ps e)) none_wrong)

  of_reading_codes : (a : Kind) (at : ℕ) (t : Tree) (next : Typing) → size t ≤ n → IsTyped (on_found (of_reading (read a at t)) (λ y. next)) → HasCodes t
  of_reading_codes a at t next small h = by (read a at t) refl h
    where
      by : (e : Literal Val) → read a at t ≡ e → IsTyped (on_found (of_reading e) (λ y. next)) → HasCodes t
      by (good x ps) s h = tries (fault_of_bodies ps) refl h
        where
          tries : (o : Option ℕ) → fault_of_bodies ps ≡ o → IsTyped (on_found (checked x ps o) (λ y. next)) → HasCodes t
          tries None r h = literal_tree_codes a at t x ps small s r
          tries (Some l) r h = absurd h
      by (bad l) s h = absurd h

  -- ---- the forms

  push_codes : (ts : Trees) (A : List Kind) → sizes ts ≤ n → IsTyped (on_found (push_of ts) (λ p. push_type p (typing_at ts) A)) → HaveCodes ts
  push_codes ts A small h = by ts small (subst IsTyped (all_pushed ts A) h)
    where
      by : (ts : Trees) → sizes ts ≤ n → IsTyped (on_found (push_of ts) (λ p. on_found (of_reading (read p.kind p.location p.literal)) (λ x. goes (p.kind ∷ A)))) → HaveCodes ts
      by none small h = absurd h
      by (more t none) small h = absurd h
      by (more t (more u (more w us))) small h = absurd h
      by (more t (more u none)) small h = of_type (type_argument pushable 1 t) refl h
        where
          of_type : (g : Found Kind) → type_argument pushable 1 t ≡ g →
              IsTyped (on_found {A = Pushed} (and_then {A = Kind} {B = Pushed} g (λ a. found record { kind = a; location = 1 + size t; literal = u })) (λ p. on_found (of_reading (read p.kind p.location p.literal)) (λ x. goes (p.kind ∷ A)))) →
              HaveCodes (more t (more u none))
          of_type (found a) s h = (argument_codes pushable 1 t a s, (of_reading_codes a (1 + size t) u (goes (a ∷ A)) (omega (arith, small)) h, tt))
          of_type (fault l) s h = absurd h

  count_codes : (t : Tree) (m : ℕ) → count_argument 0 count_limit 1 t ≡ found m → HasCodes t
  count_codes (int k) m e = tt
  count_codes (str s) m e = absurd cc
  count_codes (bytes b) m e = absurd cc
  count_codes (prim name annots ts) m e = absurd cc
  count_codes (seq ts) m e = absurd cc

  dip_codes : (ts : Trees) (c : Context) (A : List Kind) → sizes ts ≤ n → IsTyped (on_found (dip_of ts) (λ m. last_body (bodies ts 1) (λ b. dip_type m b c A))) → HaveCodes ts
  dip_codes none c A small h = absurd h
  dip_codes (more b none) c A small h =
      (body_honest b 1 (omega (arith, small)) c (drop 1 A) (below (take 1 A) (nodes.body b 1 c (drop 1 A)) (tested (nat_le 1 (length A)) (under (take 1 A) (nodes.body b 1 c (drop 1 A))) h)), tt)
  dip_codes (more t (more b none)) c A small h =
      let g = on_found_typed (count_argument 0 count_limit 1 t) (λ m. dip_type m (nodes.body b (1 + size t)) c A) h in
      let m = g.value in (
        count_codes t m g.is,
        (
          body_honest b (1 + size t) (omega (arith, small)) c (drop m A)
              (below (take m A) (nodes.body b (1 + size t) c (drop m A)) (tested (nat_le m (length A)) (under (take m A) (nodes.body b (1 + size t) c (drop m A))) g.typed)),
          tt,
        ),
      )
  dip_codes (more t (more b (more u us))) c A small h = absurd h

  -- LAMBDA and LAMBDA_REC, by what is made of the body
  arrow_codes : (ts : Trees) (next : Arrow → Typer → Typing) → sizes ts ≤ n → ((x : Arrow) (b : Typer) → IsTyped (next x b) → (A : List Kind) × IsTyped (b place.lambda A)) →
      IsTyped (on_found (lambda_of ts) (λ x. last_body (bodies ts 1) (next x))) → HaveCodes ts
  arrow_codes none next small within h = absurd h
  arrow_codes (more a none) next small within h = absurd h
  arrow_codes (more a (more r none)) next small within h = absurd h
  arrow_codes (more a (more r (more b (more u us)))) next small within h = absurd h
  arrow_codes (more a (more r (more b none))) next small within h = by (type_argument any_kind 1 a) (type_argument any_kind (1 + size a) r) refl refl h
    where
      place_of : ℕ
      place_of = 1 + size a + size r

      by : (f g : Found Kind) → type_argument any_kind 1 a ≡ f → type_argument any_kind (1 + size a) r ≡ g →
          IsTyped (on_found {A = Arrow} (and_then f (λ t. and_then g (λ u. found record { argument = t; result = u }))) (λ x. next x (nodes.body b place_of))) → HaveCodes (more a (more r (more b none)))
      by (found t) (found u) s e h =
          let k = within record { argument = t; result = u } (nodes.body b place_of) h in
          (argument_codes any_kind 1 a t s, (argument_codes any_kind (1 + size a) r u e, (body_honest b place_of (omega (arith, small)) place.lambda k.0 k.1, tt)))
      by (found t) (fault l) s e h = absurd h
      by (fault l) g s e h = absurd h

  lambda_within : (A : List Kind) (x : Arrow) (b : Typer) → IsTyped (lambda_type x b A) → (B : List Kind) × IsTyped (b place.lambda B)
  lambda_within A x b h = (x.argument ∷ [], ended (b place.lambda (x.argument ∷ [])) (x.result ∷ []) (made (lambda x.argument x.result) A) h)

  lambda_rec_within : (A : List Kind) (x : Arrow) (b : Typer) → IsTyped (lambda_rec_type x b A) → (B : List Kind) × IsTyped (b place.lambda B)
  lambda_rec_within A x b h =
      let B : List Kind = call_kinds x.argument x.result true in
      (B, ended (b place.lambda B) (x.result ∷ []) (goes (lambda x.argument x.result ∷ A)) (tested (nat_le (nodes (lambda x.argument x.result)) type_limit) _ h))

  -- no bodies, one or two
  no_body_codes : (ts : Trees) (T : Typing) → IsTyped (no_body (bodies ts 1) T) → HaveCodes ts
  no_body_codes none T h = tt
  no_body_codes (more t ts) T h = absurd h

  one_body_codes : (ts : Trees) (c : Context) (next : Typer → Typing) → sizes ts ≤ n → ((b : Typer) → IsTyped (next b) → (A : List Kind) × IsTyped (b c A)) →
      IsTyped (one_body (bodies ts 1) next) → HaveCodes ts
  one_body_codes none c next small within h = absurd h
  one_body_codes (more t (more u us)) c next small within h = absurd h
  one_body_codes (more t none) c next small within h = let k = within (nodes.body t 1) h in (body_honest t 1 (omega (arith, small)) c k.0 k.1, tt)

  two_bodies_codes : (ts : Trees) (c : Context) (next : Typer → Typer → Typing) → sizes ts ≤ n →
      ((b d : Typer) → IsTyped (next b d) → ((A : List Kind) × IsTyped (b c A)) × ((B : List Kind) × IsTyped (d c B))) → IsTyped (two_bodies (bodies ts 1) next) → HaveCodes ts
  two_bodies_codes none c next small within h = absurd h
  two_bodies_codes (more t none) c next small within h = absurd h
  two_bodies_codes (more t (more u (more w us))) c next small within h = absurd h
  two_bodies_codes (more t (more u none)) c next small within h =
      let k = within (nodes.body t 1) (nodes.body u (1 + size t)) h in
      (body_honest t 1 (omega (arith, small)) c k.0.0 k.0.1, (body_honest u (1 + size t) (omega (arith, small)) c k.1.0 k.1.1, tt))

  self_codes : (annots : List (List ℕ)) (ts : Trees) (next : List ℕ → Typing) → IsTyped (on_found (self_of annots ts) next) → HaveCodes ts
  self_codes annots ts next h = by (annotated default_name annots) ts h
    where
      by : (f : Found (List ℕ)) (ts : Trees) → IsTyped (on_found (and_then f (λ name. no_argument ts name)) next) → HaveCodes ts
      by (found name) none h = tt
      by (found name) (more t ts) h = absurd h
      by (fault l) ts h = absurd h

  found_there : (at : ℕ) (q : Found Script) (g : Kind) (A : List Kind) → IsTyped (of_script (found_at at q) g A) → (x : Script) × (q ≡ found x)
  found_there at (found x) g A h = (x, refl)
  found_there at (fault l) g A h = absurd h

  create_codes : (ts : Trees) (A : List Kind) → sizes ts ≤ n →
      IsTyped (one_body (bodies ts 1) (λ b. on_origination A (λ g B. of_script (script_in ts 1) g B))) → HaveCodes ts
  create_codes none A small h = absurd h
  create_codes (more t (more u us)) A small h = absurd h
  create_codes (more t none) A small h =
      let k = origination_typed A (λ g B. of_script (script_in (more t none) 1) g B) h in
      let x = found_there 1 (script_at t 0) k.0 k.1 k.2 in
      (script_codes t 0 x.0 (omega (arith, small)) x.1, tt)

  act_codes : (form : Form) (name : Option Primitive) (annots : List (List ℕ)) (ts : Trees) (c : Context) (A : List Kind) → sizes ts ≤ n →
      IsTyped (act_type form name annots ts record { bodies = bodies ts 1; script = λ at. script_in ts at; typing_at = typing_at ts } c A) → HaveCodes ts
  act_codes f.straight name annots ts c A small h = rule_codes name annots ts A h
  act_codes f.transfer name annots ts c A small h = rule_codes name annots ts A (outside c (of_rule (rule name annots ts A)) h)
  act_codes f.push name annots ts c A small h = push_codes ts A small h
  act_codes f.dip name annots ts c A small h = dip_codes ts c A small h
  act_codes f.lambda name annots ts c A small h = arrow_codes ts (λ x b. lambda_type x b A) small (lambda_within A) h
  act_codes f.lambda_rec name annots ts c A small h = arrow_codes ts (λ x b. lambda_rec_type x b A) small (lambda_rec_within A) h
  act_codes f.exec name annots ts c A small h = no_body_codes ts _ h
  act_codes f.apply name annots ts c A small h = no_body_codes ts _ h
  act_codes f.if_bool name annots ts c A small h = two_bodies_codes ts c _ small (λ b d g.
      let k = bool_typed A (λ A. join (b c A) (d c A)) g in let j = joined (b c k.0) (d c k.0) k.1 in ((k.0, j.0), (k.0, j.1))) h
  act_codes f.if_none name annots ts c A small h = two_bodies_codes ts c _ small (λ b d g.
      let k = option_typed A (λ a A. join (b c A) (d c (a ∷ A))) g in let j = joined (b c k.1) (d c (k.0 ∷ k.1)) k.2 in ((k.1, j.0), (k.0 ∷ k.1, j.1))) h
  act_codes f.if_left name annots ts c A small h = two_bodies_codes ts c _ small (λ b d g.
      let k = or_typed A (λ l r A. join (b c (l ∷ A)) (d c (r ∷ A))) g in let j = joined (b c (k.0 ∷ k.2)) (d c (k.1 ∷ k.2)) k.3 in ((k.0 ∷ k.2, j.0), (k.1 ∷ k.2, j.1))) h
  act_codes f.if_cons name annots ts c A small h = two_bodies_codes ts c _ small (λ b d g.
      let k = list_typed A (λ a A. join (b c (a ∷ list a ∷ A)) (d c A)) g in let j = joined (b c (k.0 ∷ list k.0 ∷ k.1)) (d c k.1) k.2 in ((k.0 ∷ list k.0 ∷ k.1, j.0), (k.1, j.1))) h
  act_codes f.loop name annots ts c A small h = one_body_codes ts c _ small (λ b g.
      let k = bool_typed A (λ A. ends (b c A) (bool ∷ A) (goes A)) g in (k.0, ended (b c k.0) (bool ∷ k.0) (goes k.0) k.1)) h
  act_codes f.loop_left name annots ts c A small h = one_body_codes ts c _ small (λ b g.
      let k = or_typed A (λ l r A. ends (b c (l ∷ A)) (or l r ∷ A) (goes (r ∷ A))) g in (k.0 ∷ k.2, ended (b c (k.0 ∷ k.2)) (or k.0 k.1 ∷ k.2) (goes (k.1 ∷ k.2)) k.3)) h
  act_codes f.iter name annots ts c A small h = one_body_codes ts c _ small (λ b g.
      let k = parts_typed A (λ a A. ends (b c (a ∷ A)) A (goes A)) g in (k.0 ∷ k.1, ended (b c (k.0 ∷ k.1)) k.1 (goes k.1) k.2)) h
  act_codes f.map name annots ts c A small h = one_body_codes ts c _ small (λ b g.
      let k = mapped_typed A (λ a new A. mapped (b c (a ∷ A)) new A) g in (k.0 ∷ k.2, of_mapped (b c (k.0 ∷ k.2)) k.1 k.2 k.3)) h
  act_codes f.failwith name annots ts c A small h = no_body_codes ts _ h
  act_codes f.never name annots ts c A small h = no_body_codes ts _ h
  act_codes f.self name annots ts c A small h = self_codes annots ts (λ entry. self_type entry c A) h
  act_codes f.create_contract name annots ts c A small h = create_codes ts A small (outside c _ h)

  -- a name that is no primitive's has no typing
  named_codes : (name : List ℕ) (annots : List (List ℕ)) (ts : Trees) (c : Context) (A : List Kind) (o : Option Primitive) → primitive_of_name name ≡ o →
      IsTyped (named_type o annots ts record { bodies = bodies ts 1; script = λ at. script_in ts at; typing_at = typing_at ts } c A) → IsKnown name
  named_codes name annots ts c A (Some p) e h = of_primitive name p e
  named_codes name annots ts c A None e h = absurd h

  next_codes : Upto (suc n)
  next_codes (int m) c A small h = absurd h
  next_codes (str s) c A small h = absurd h
  next_codes (bytes b) c A small h = absurd h
  next_codes (prim name annots ts) c A small h = (
    named_codes name annots ts c A (primitive_of_name name) refl h,
    act_codes (form_of (primitive_of_name name)) (primitive_of_name name) annots ts c A (omega (arith, small)) h,
  )
  next_codes (seq ts) c A small h = block_codes ts c A (omega (arith, small)) (unshifted 1 (trees_type ts c A) h)

pub codes_upto : (n : ℕ) → Upto n
codes_upto zero t c A small h = absurd (none_below t small)
codes_upto (suc n) t c A small h = next_codes n (codes_upto n) t c A small h

pub typed_code_has_codes : TypedCodeHasCodes
typed_code_has_codes t c A h = codes_upto (size t) t c A (omega arith) h
