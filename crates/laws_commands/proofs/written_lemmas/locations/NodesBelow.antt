-- The faults of code and of scripts are at locations of their nodes.
use Rattle.std.proofs.Common.{◌≡◌, ◌<◌, ◌≤◌, ◌+◌, ◌-◌, ℕ, zero, suc, true, Option, Some, None, List, [], ◌∷◌, ◌++◌, length, drop, refl, subst, arith}
use Rattle.std.specs.Prelude.{nat_le, slice_get, take}
use Rattle.std.specs.List.{AllByRecursion}
use Rattle.std.proofs.lemmas.List.{length-append}
use Rattle.rules_text.specs.nodes.Limits.{type_limit}
use Rattle.rules_text.specs.nodes.Tree.{Tree, int, str, bytes, prim, seq, Trees, none, more, size, sizes}
use Rattle.rules_text.specs.nodes.Primitives.{primitive_of_name}
use Rattle.rules_text.specs.declared.nodes.Primitive.{Primitive}
use Rattle.rules_data.specs.types.Kind.{Kind, nodes}
use Rattle.rules_data.specs.types.Kind as k
use Rattle.rules_data.specs.types.Entrypoints.{Entry, find_entry}
use Rattle.rules_data.specs.values.Val.{Val}
use Rattle.rules_data.specs.values.Literals.{Literal, good, Pending, read}
use Rattle.rules_data.specs.values.Literals as read
use Rattle.rules_code.specs.instructions.Types as ty
use Rattle.rules_code.specs.instructions.Context.{Context}
use Rattle.rules_code.specs.instructions.Context as place
use Rattle.rules_code.specs.instructions.Forms.{Form, form_of}
use Rattle.rules_code.specs.instructions.Forms as f
use Rattle.rules_code.specs.instructions.Same.{same_kind}
use Rattle.rules_code.specs.instructions.Arguments.{Found, found, fault, and_then}
use Rattle.rules_code.specs.instructions.Control.{Pushed, push_of, dip_of, lambda_of, call_kinds, self_of}
use Rattle.rules_code.specs.instructions.Rules.{Ruled, ruled, faulty, rule}
use Rattle.rules_code.specs.typing.Typing.{Typing, goes, fails, bad, Typer, shift, made, under, ends}
use Rattle.rules_code.specs.typing.Typing as typing
use Rattle.rules_code.specs.typing.Bodies.{bodies_fault}
use Rattle.rules_code.specs.typing.Sections.{content_at}
use Rattle.rules_code.specs.typing.Scripts.{Script, outline_of, with_bodies, Outline}
use Rattle.rules_code.specs.typing.Acts.{Meanings, no_body, one_body, two_bodies, last_body, of_rule, outside_views, unless_fault, of_literal, push_type, dip_type, lambda_type, lambda_rec_type, of_entry, self_type, of_script, act_type}
use Rattle.rules_code.specs.typing.Nodes.{tree_type, trees_type, bodies, body, typings, inner_typings, typing_of, found_at, script_in, script_at, sections, inner_bodies}
use Rattle.laws_commands.proofs.written_lemmas.locations.Below.{FoundBelow, size_some, RuledBelow, rule_below}
use Rattle.laws_commands.proofs.written_lemmas.locations.LiteralsBelow.{LiteralBelow, read_below}
use Rattle.laws_commands.proofs.written_lemmas.locations.TypingsBelow.{TypingBelow, TyperBelow, FaultBelow, shift_below, shift_less, block_below, bodies_fault_below, found_below, made_below, if_below, join_below, ends_below, under_below, mapped_below, bool_below, option_below, or_below, list_below, parts_below, on_mapped_below, call_below, captured_below, origination_below, shown_below, never_below, PushedBelow, pushed_below, dip_below, lambda_below, self_below}
use Rattle.laws_commands.proofs.written_lemmas.locations.SectionsBelow.{FoundIs, SectionBelow, ContentBelow, content_below, OutlineBelow, outline_below}
use Rattle.laws_commands.proofs.written_lemmas.locations.SectionsBelow as sections_below
use Rattle.rules_code.specs.typing.Stacks.{on_origination}

-- ---- the number of bodies

module _ (n : ℕ) (some : 0 < n) where
  no_body_below : (bs : List Typer) (T : Typing) → TypingBelow n T → TypingBelow n (no_body bs T)
  no_body_below [] T h = h
  no_body_below (b ∷ bs) T h = some

  one_body_below : (bs : List Typer) (next : Typer → Typing) → AllByRecursion (TyperBelow n) bs →
      ((b : Typer) → TyperBelow n b → TypingBelow n (next b)) → TypingBelow n (one_body bs next)
  one_body_below [] next h g = some
  one_body_below (b ∷ []) next h g = g b h.0
  one_body_below (b ∷ c ∷ bs) next h g = some

  two_bodies_below : (bs : List Typer) (next : Typer → Typer → Typing) → AllByRecursion (TyperBelow n) bs →
      ((b c : Typer) → TyperBelow n b → TyperBelow n c → TypingBelow n (next b c)) → TypingBelow n (two_bodies bs next)
  two_bodies_below [] next h g = some
  two_bodies_below (b ∷ []) next h g = some
  two_bodies_below (b ∷ c ∷ []) next h g = g b c h.0 h.1.0
  two_bodies_below (b ∷ c ∷ d ∷ bs) next h g = some

  last_body_below : (bs : List Typer) (next : Typer → Typing) → AllByRecursion (TyperBelow n) bs →
      ((b : Typer) → TyperBelow n b → TypingBelow n (next b)) → TypingBelow n (last_body bs next)
  last_body_below [] next h g = some
  last_body_below (b ∷ []) next h g = g b h.0
  last_body_below (b ∷ c ∷ bs) next h g = last_body_below (c ∷ bs) next h.1 g

  outside_below : (c : Context) (T : Typing) → TypingBelow n T → TypingBelow n (outside_views c T)
  outside_below place.view T h = some
  outside_below (place.main es) T h = h
  outside_below place.lambda T h = h

  ruled_is : (r : Ruled) → RuledBelow n r → TypingBelow n (of_rule r)
  ruled_is (ruled r A) h = tt
  ruled_is (faulty l) h = h

  -- ---- what an instruction is by what its arguments mean

  record MeaningsBelow (ts : Trees) (m : Meanings) : Type 0 where
    small : sizes ts < n
    bodies : AllByRecursion (TyperBelow n) m.bodies
    typing_at : (at : ℕ) → at < n → TyperBelow n (m.typing_at at)

  unless_below : (o : Option ℕ) (T : Typing) → FaultBelow n o → TypingBelow n T → TypingBelow n (unless_fault o T)
  unless_below (Some l) T h g = h
  unless_below None T h g = g

  literal_below : (typing_at : ℕ → Typer) → ((at : ℕ) → at < n → TyperBelow n (typing_at at)) →
      (a : Kind) (A : List Kind) (l : Literal Val) → LiteralBelow n l →
      TypingBelow n (of_literal typing_at a A l)
  literal_below typing_at h a A (read.good x ps) g =
      unless_below (bodies_fault (λ l t. typing_at l) ps) (goes (a ∷ A))
      (bodies_fault_below n (λ l t. typing_at l) (λ at t room. let s = size_some t in h at (omega (arith, s, room))) ps g) tt
  literal_below typing_at h a A (read.bad l) g = g

  pushed_is : (q : Found Pushed) (typing_at : ℕ → Typer) (A : List Kind) → PushedBelow n q →
      ((at : ℕ) → at < n → TyperBelow n (typing_at at)) →
      TypingBelow n (typing.on_found q (λ p. push_type p typing_at A))
  pushed_is (found p) typing_at A h g = literal_below typing_at g p.kind A (read p.kind p.location p.literal)
      (read_below n p.kind p.location p.literal h)
  pushed_is (fault l) typing_at A h g = h

  entry_below : (o : Option Entry) (A : List Kind) → TypingBelow n (of_entry o A)
  entry_below (Some e) A = made_below n some (k.contract e.kind) A
  entry_below None A = some

  self_is : (name : List ℕ) (c : Context) (A : List Kind) → TypingBelow n (self_type name c A)
  self_is name (place.main es) A = entry_below (find_entry name es) A
  self_is name place.view A = some
  self_is name place.lambda A = some

  script_is : (q : Found Script) (g : Kind) (A : List Kind) → FoundBelow n q → TypingBelow n (of_script q g A)
  script_is (found s) g A h = if_below n some (same_kind s.storage g) (goes (k.operation ∷ ty.address ∷ A)) tt
  script_is (fault l) g A h = h

  act_below : (form : Form) (name : Option Primitive) (annots : List (List ℕ)) (ts : Trees) (m : Meanings) → MeaningsBelow ts m →
      ((b : Typer) → m.bodies ≡ b ∷ [] → FoundBelow n (m.script 1)) → TyperBelow n (λ c A. act_type form name annots ts m c A)
  act_below f.straight name annots ts m h s c A = ruled_is (rule name annots ts A) (rule_below n name annots ts A h.small)
  act_below f.transfer name annots ts m h s c A = outside_below c (of_rule (rule name annots ts A))
      (ruled_is (rule name annots ts A) (rule_below n name annots ts A h.small))
  act_below f.push name annots ts m h s c A = pushed_is (push_of ts) m.typing_at A (pushed_below n ts h.small) h.typing_at
  act_below f.dip name annots ts m h s c A =
      found_below n some (dip_of ts) (λ d. last_body m.bodies (λ b. dip_type d b c A)) (dip_below n ts h.small) (λ d e.
      last_body_below m.bodies (λ b. dip_type d b c A) h.bodies (λ b t.
      if_below n some (nat_le d (length A)) (under (take d A) (b c (drop d A)))
      (under_below n some (take d A) (b c (drop d A)) (t c (drop d A)))))
  act_below f.lambda name annots ts m h s c A =
      found_below n some (lambda_of ts) (λ x. last_body m.bodies (λ b. lambda_type x b A)) (lambda_below n ts h.small) (λ x e.
      last_body_below m.bodies (λ b. lambda_type x b A) h.bodies (λ b t.
      ends_below n some (b place.lambda (x.argument ∷ [])) (x.result ∷ []) (made (k.lambda x.argument x.result) A)
      (t place.lambda (x.argument ∷ []))
      (made_below n some (k.lambda x.argument x.result) A)))
  act_below f.lambda_rec name annots ts m h s c A =
      found_below n some (lambda_of ts) (λ x. last_body m.bodies (λ b. lambda_rec_type x b A)) (lambda_below n ts h.small) (λ x e.
      last_body_below m.bodies (λ b. lambda_rec_type x b A) h.bodies (λ b t.
      if_below n some (nat_le (nodes (k.lambda x.argument x.result)) type_limit)
      (ends (b place.lambda (call_kinds x.argument x.result true)) (x.result ∷ []) (goes (k.lambda x.argument x.result ∷ A)))
      (ends_below n some (b place.lambda (call_kinds x.argument x.result true)) (x.result ∷ []) (goes (k.lambda x.argument x.result ∷ A))
      (t place.lambda (call_kinds x.argument x.result true)) tt)))
  act_below f.exec name annots ts m h s c A = no_body_below m.bodies _ (call_below n some A (λ r A. goes (r ∷ A)) (λ r A. tt))
  act_below f.apply name annots ts m h s c A = no_body_below m.bodies _
      (captured_below n some A (λ b r A. goes (k.lambda b r ∷ A)) (λ b r A. tt))
  act_below f.if_bool name annots ts m h s c A =
      two_bodies_below m.bodies _ h.bodies (λ b d t u. bool_below n some A _ (λ A. join_below n some (b c A) (d c A) (t c A) (u c A)))
  act_below f.if_none name annots ts m h s c A =
      two_bodies_below m.bodies _ h.bodies (λ b d t u. option_below n some A _
      (λ a A. join_below n some (b c A) (d c (a ∷ A)) (t c A) (u c (a ∷ A))))
  act_below f.if_left name annots ts m h s c A =
      two_bodies_below m.bodies _ h.bodies (λ b d t u. or_below n some A _
      (λ l r A. join_below n some (b c (l ∷ A)) (d c (r ∷ A)) (t c (l ∷ A)) (u c (r ∷ A))))
  act_below f.if_cons name annots ts m h s c A =
      two_bodies_below m.bodies _ h.bodies (λ b d t u. list_below n some A _
      (λ a A. join_below n some (b c (a ∷ k.list a ∷ A)) (d c A) (t c (a ∷ k.list a ∷ A)) (u c A)))
  act_below f.loop name annots ts m h s c A =
      one_body_below m.bodies _ h.bodies (λ b t. bool_below n some A _ (λ A. ends_below n some (b c A) (ty.bool ∷ A) (goes A) (t c A) tt))
  act_below f.loop_left name annots ts m h s c A =
      one_body_below m.bodies _ h.bodies (λ b t. or_below n some A _
      (λ l r A. ends_below n some (b c (l ∷ A)) (k.or l r ∷ A) (goes (r ∷ A)) (t c (l ∷ A)) tt))
  act_below f.iter name annots ts m h s c A =
      one_body_below m.bodies _ h.bodies (λ b t. parts_below n some A _
      (λ a A. ends_below n some (b c (a ∷ A)) A (goes A) (t c (a ∷ A)) tt))
  act_below f.map name annots ts m h s c A =
      one_body_below m.bodies _ h.bodies (λ b t. on_mapped_below n some A _
      (λ a new A. mapped_below n some (b c (a ∷ A)) new A (t c (a ∷ A))))
  act_below f.failwith name annots ts m h s c A = no_body_below m.bodies _ (shown_below n some A)
  act_below f.never name annots ts m h s c A = no_body_below m.bodies _ (never_below n some A)
  act_below f.self name annots ts m h s c A = found_below n some (self_of annots ts) (λ entry. self_type entry c A)
      (self_below n annots ts h.small) (λ entry e. self_is entry c A)
  act_below f.create_contract name annots ts m h s c A = outside_below c _ (by m.bodies s)
    where
      by : (bs : List Typer) → ((b : Typer) → bs ≡ b ∷ [] → FoundBelow n (m.script 1)) →
          TypingBelow n (one_body bs (λ b. on_origination A (λ g A. of_script (m.script 1) g A)))
      by [] s = some
      by (b ∷ []) s = origination_below n some A _ (λ g A. script_is (m.script 1) g A (s b refl))
      by (b ∷ d ∷ bs) s = some

-- ---- the typings of all nodes

-- each at a location, from one on
abbrev AllAt : ℕ → ℕ → List Typer → Type 0
AllAt n at [] = Unit {0}
AllAt n at (b ∷ bs) = TyperBelow n (λ c A. shift at (b c A)) × AllAt n (suc at) bs

all_both : (n at : ℕ) (xs ys : List Typer) → AllAt n at xs → AllAt n (at + length xs) ys → AllAt n at (xs ++ ys)
all_both n at [] ys h g = let e : at + 0 ≡ at = omega arith in subst (λ j. AllAt n j ys) e g
all_both n at (x ∷ xs) ys h g =
    let e : at + suc (length xs) ≡ suc at + length xs = omega arith in (h.0, all_both n (suc at) xs ys h.1 (subst (λ j. AllAt n j ys) e g))

looked_up : (n at : ℕ) (bs : List Typer) (i : ℕ) → AllAt n at bs → at + i < n →
    TyperBelow n (λ c A. shift (at + i) (typing_of (slice_get bs i) c A))
looked_up n at [] i h l c A = omega (arith, l)
looked_up n at (b ∷ bs) zero h l c A = let e : at ≡ at + 0 = omega arith in subst (λ j. TypingBelow n (shift j (b c A))) e (h.0 c A)
looked_up n at (b ∷ bs) (suc i) h l c A =
    let e : suc at + i ≡ at + suc i = omega arith in
    subst (λ j. TypingBelow n (shift j (typing_of (slice_get bs i) c A))) e (looked_up n (suc at) bs i h.1 (omega (arith, l)) c A)

mutual
  typings_long : (ts : Trees) → length (typings ts) ≡ sizes ts
  typings_long none = refl
  typings_long (more t ts) =
      let h = inner_long t in
      let g = typings_long ts in
      let both = length-append (inner_typings t) (typings ts) in omega (arith, h, g, both)

  inner_long : (t : Tree) → length (inner_typings t) + 1 ≡ size t
  inner_long (int n) = refl
  inner_long (str s) = refl
  inner_long (bytes b) = refl
  inner_long (prim name annots ts) = let h = typings_long ts in omega (arith, h)
  inner_long (seq ts) = let h = typings_long ts in omega (arith, h)

-- the one argument as a script
abbrev ScriptIn : Trees → Type 0
ScriptIn (more t none) = FoundBelow (size t) (script_at t 0)
ScriptIn none = Unit {0}
ScriptIn (more t (more u ts)) = Unit {0}

script_in_below : (ts : Trees) (b : Typer) → ScriptIn ts → bodies ts 1 ≡ b ∷ [] → FoundBelow (sizes ts + 1) (script_in ts 1)
script_in_below none b h e = absurd cc
script_in_below (more t none) b h e = by (script_at t 0) h
  where
    by : (q : Found Script) → FoundBelow (size t) q → FoundBelow (size t + 0 + 1) (found_at 1 q)
    by (found s) g = tt
    by (fault l) g = omega (arith, g)
script_in_below (more t (more u ts)) b h e = absurd cc

at_zero : (n : ℕ) (bs : List Typer) → 0 < n → AllAt n 1 bs → TyperBelow n (λ c A. shift 0 (typing_of (slice_get bs 0) c A))
at_zero n [] l h c A = omega (arith, l)
at_zero n (b ∷ bs) l h c A = shift_less 1 0 n (b c A) (omega arith) (h.0 c A)

at_location : (ts : Trees) → AllAt (sizes ts + 1) 1 (typings ts) → (at : ℕ) → at < sizes ts + 1 →
    TyperBelow (sizes ts + 1) (λ c A. shift at (typing_of (slice_get (typings ts) (at - 1)) c A))
at_location ts h zero l c A = at_zero (sizes ts + 1) (typings ts) l h c A
at_location ts h (suc i) l c A =
    let e : 1 + i ≡ suc i = omega arith in
    let f : i ≡ suc i - 1 = omega arith in
    subst (λ j. TypingBelow (sizes ts + 1) (shift (suc i) (typing_of (slice_get (typings ts) j) c A))) f
    (subst (λ j. TypingBelow (sizes ts + 1) (shift j (typing_of (slice_get (typings ts) i) c A))) e
    (looked_up (sizes ts + 1) 1 (typings ts) i h (omega (arith, l)) c A))

of_outline : (n : ℕ) (o : Found Outline) → FoundIs (OutlineBelow n) n o →
    FoundBelow n (and_then o with_bodies)
of_outline n (found o) h = sections_below.bodies_below n o h
of_outline n (fault l) h = h

mutual
  pub tree_below : (t : Tree) → TyperBelow (size t) (λ c A. tree_type t c A)
  tree_below (int n) c A = omega arith
  tree_below (str s) c A = omega arith
  tree_below (bytes b) c A = omega arith
  tree_below (prim name annots ts) c A =
      act_below (sizes ts + 1) (omega arith) (form_of (primitive_of_name name)) (primitive_of_name name) annots ts
      (record {
        bodies = bodies ts 1;
        script = λ at. script_in ts at;
        typing_at = λ l c A. shift l (typing_of (slice_get (typings ts) (l - 1)) c A);
      })
      (record {
        small = omega arith;
        bodies = bodies_below ts 1 (sizes ts + 1) (omega arith);
        typing_at = at_location ts (typings_below ts 1 (sizes ts + 1) (omega arith));
      })
      (λ b e. script_in_below ts b (scripts_below ts) e) c A
  tree_below (seq ts) c A = shift_below 1 (sizes ts) (sizes ts + 1) (trees_type ts c A) (omega arith) (trees_below ts c A)

  trees_below : (ts : Trees) → TyperBelow (sizes ts) (λ c A. trees_type ts c A)
  trees_below none c A = tt
  trees_below (more t ts) c A =
      let s = size_some t in
      block_below (size t) (sizes (more t ts)) (tree_type t c A) ts (λ B. shift (size t) (trees_type ts c B)) (omega arith)
      (omega (arith, s)) (tree_below t c A)
      (λ B. shift_below (size t) (sizes ts) (sizes (more t ts)) (trees_type ts c B) (omega arith) (trees_below ts c B))

  bodies_below : (ts : Trees) (at n : ℕ) → at + sizes ts ≤ n → AllByRecursion (TyperBelow n) (bodies ts at)
  bodies_below none at n h = tt
  bodies_below (more t ts) at n h = (body_below t at n (omega (arith, h)), bodies_below ts (at + size t) n (omega (arith, h)))

  body_below : (t : Tree) (at n : ℕ) → at + size t ≤ n → TyperBelow n (λ c A. body t at c A)
  body_below (seq ts) at n h c A = shift_below (at + 1) (sizes ts) n (trees_type ts c A) (omega (arith, h)) (trees_below ts c A)
  body_below (int z) at n h c A = omega (arith, h)
  body_below (str z) at n h c A = omega (arith, h)
  body_below (bytes z) at n h c A = omega (arith, h)
  body_below (prim name annots ts) at n h c A = omega (arith, h)

  typings_below : (ts : Trees) (at n : ℕ) → at + sizes ts ≤ n → AllAt n at (typings ts)
  typings_below none at n h = tt
  typings_below (more t ts) at n h =
      let long = inner_long t in
      let e : at + size t ≡ suc at + length (inner_typings t) = omega (arith, long) in (
        λ c A. shift_below at (size t) n (tree_type t c A) (omega (arith, h)) (tree_below t c A),
        all_both n (suc at) (inner_typings t) (typings ts) (inner_below t at n (omega (arith, h)))
            (subst (λ j. AllAt n j (typings ts)) e (typings_below ts (at + size t) n (omega (arith, h)))),
      )

  inner_below : (t : Tree) (at n : ℕ) → at + size t ≤ n → AllAt n (suc at) (inner_typings t)
  inner_below (prim name annots ts) at n h = typings_below ts (suc at) n (omega (arith, h))
  inner_below (seq ts) at n h = typings_below ts (suc at) n (omega (arith, h))
  inner_below (int z) at n h = tt
  inner_below (str z) at n h = tt
  inner_below (bytes z) at n h = tt

  scripts_below : (ts : Trees) → ScriptIn ts
  scripts_below none = tt
  scripts_below (more t none) = script_below t
  scripts_below (more t (more u ts)) = tt

  pub script_below : (t : Tree) → FoundBelow (size t) (script_at t 0)
  script_below (seq ts) = of_outline (sizes ts + 1) (outline_of 0 (sections ts 1)) (outline_below (sizes ts + 1) 0 (sections ts 1)
      (omega arith) (sections_are ts 1 (sizes ts + 1) (omega arith)))
  script_below (int z) = omega arith
  script_below (str z) = omega arith
  script_below (bytes z) = omega arith
  script_below (prim name annots ts) = omega arith

  sections_are : (ts : Trees) (at n : ℕ) → at + sizes ts ≤ n → AllByRecursion (SectionBelow n) (sections ts at)
  sections_are none at n h = tt
  sections_are (more t ts) at n h =
      let s = size_some t in
      ((omega (arith, h, s), section_is t at n (omega (arith, h))), sections_are ts (at + size t) n (omega (arith, h)))

  section_is : (t : Tree) (at n : ℕ) → at + size t ≤ n → ContentBelow n (content_at at t (inner_bodies t at))
  section_is (prim name annots args) at n h =
      content_below n (primitive_of_name name) at (prim name annots args) args (bodies args (at + 1)) h (omega (arith, h))
      (bodies_below args (at + 1) n (omega (arith, h)))
  section_is (int z) at n h = tt
  section_is (str z) at n h = tt
  section_is (bytes z) at n h = tt
  section_is (seq z) at n h = tt
