-- The walk over a script finds just its derivation, so that what it confirms is valid, and nothing else.
use Rattle.std.proofs.Common.{◌≡◌, ℕ, zero, suc, ◌+◌, ◌-◌, ◌<◌, ◌≤◌, ◌^◌, ◌==◌, Bool, true, false, ◌&&◌, cond, Option, Some, None, List, [], ◌∷◌, refl, sym, ap, ◌∙◌, subst, zero-add, eq-eqb, arith}
use Rattle.std.specs.Prelude.{Result, Ok, Err, IfOk, IsTrue, ◌↔◌, option_and_then, slice_get}
use Rattle.std.proofs.lemmas.Bool.{and_parts, eqb-true}
use Rattle.rules_text.specs.nodes.Tree.{Tree, int, str, bytes, prim, seq, Trees, size, sizes, preorder, preorders}
use Rattle.rules_code.specs.instructions.Arguments.{Found, found, fault, and_then}
use Rattle.rules_code.specs.instructions.Same.{same_kinds}
use Rattle.rules_code.specs.typing.Nodes.{outline, script}
use Rattle.rules_code.specs.typing.Scripts.{Script, Outline, TypedView, with_bodies}
use Rattle.rules_code.specs.typing.Sections.{Body}
use Rattle.rules_code.specs.typing.Typing.{Typing, fails, bad}
use Rattle.rules_code.specs.certificates.Blocks.{outline_blocks}
use Rattle.rules_code.specs.certificates.Blocks as blocks_of
use Rattle.rules_code.specs.certificates.Certificates.{IsValid, certified_node, entry_nodes}
use Rattle.rules_code.specs.certificates.Derivation.{Entry, before, end, failing, Teller, derivation, of_blocks, tellers, told_by}
use Rattle.laws_data.proofs.types_lemmas.ForCallers.{same_kinds_refl, same_kinds_true}
use Rattle.laws_files.proofs.certificates_lemmas.Derived.{derived_types}
use Rattle.laws_files.proofs.certificates_lemmas.Entries.{valid_typed}
use Rattle.mich_cert.specs.Listed.{AreTold, NoEntries, IsNotCertified, certified_with}
use Rattle.mich_cert.specs.Scripts.{if_found, script_walk, is_whole, confirms}
use Rattle.mich_cert.specs.Walk.{same_entry, past, leading}
use Rattle.mich_cert.proofs.Branches.{nowhere}
use Rattle.mich_cert.proofs.Located.{derivation_below, are_told}
use Rattle.mich_cert.proofs.ScriptWalks.{IsThere, ViewsAreThere, script_is}
use Rattle.mich_cert.proofs.SectionPlaces.{FoundHas, Stands, TypedStand, OutlineStands, outline_stands}
use Rattle.mich_cert.proofs.Standing.{body_told}

-- ---- the same entries

same_refl : (e : Entry) → same_entry e e ≡ true
same_refl (before l A) = by (l == l) (same_kinds A A) (eq-eqb l l refl) (same_kinds_refl A)
  where
    by : (q r : Bool) → q ≡ true → r ≡ true → (q && r) ≡ true
    by true r e f = f
    by false r e f = e
same_refl (end l A) = by (l == l) (same_kinds A A) (eq-eqb l l refl) (same_kinds_refl A)
  where
    by : (q r : Bool) → q ≡ true → r ≡ true → (q && r) ≡ true
    by true r e f = f
    by false r e f = e
same_refl (failing l) = eq-eqb l l refl

same_true : (e f : Entry) → same_entry e f ≡ true → e ≡ f
same_true (before l A) (before m B) h =
    let p = and_parts (l == m) (same_kinds A B) h in
    let at : l ≡ m = eqb-true l m p.0 in
    let stack : A ≡ B = same_kinds_true A B p.1 in
    λ i. before (at i) (stack i)
same_true (end l A) (end m B) h =
    let p = and_parts (l == m) (same_kinds A B) h in
    let at : l ≡ m = eqb-true l m p.0 in
    let stack : A ≡ B = same_kinds_true A B p.1 in
    λ i. end (at i) (stack i)
same_true (failing l) (failing m) h = ap failing (eqb-true l m h)
same_true (before l A) (end m B) h = absurd cc
same_true (before l A) (failing m) h = absurd cc
same_true (end l A) (before m B) h = absurd cc
same_true (end l A) (failing m) h = absurd cc
same_true (failing l) (before m B) h = absurd cc
same_true (failing l) (end m B) h = absurd cc

past_refl : (es : List Entry) → past es es ≡ Some []
past_refl [] = refl
past_refl (e ∷ es) = ap (λ q. cond q (past es es) None) (same_refl e) ∙ past_refl es

past_same : (ds es : List Entry) → past ds es ≡ Some [] → ds ≡ es
past_same [] es h = cc
past_same (d ∷ ds) [] h = absurd cc
past_same (d ∷ ds) (e ∷ es) h = by (λ g. past_same ds es g) (same_entry d e) refl h
  where
    by : (past ds es ≡ Some [] → ds ≡ es) → (q : Bool) → same_entry d e ≡ q → cond q (past ds es) None ≡ Some [] → d ∷ ds ≡ e ∷ es
    by f true s h = let head : d ≡ e = same_true d e s in let tail : ds ≡ es = f h in λ i. head i ∷ tail i
    by f false s h = absurd cc

-- ---- the walk over a script

-- a typing that nothing but the end follows
abbrev last : Found Script → Typing
last (found s) = fails
last (fault l) = bad l

last_whole : (x : Option (List Entry)) → option_and_then (leading fails) x ≡ Some [] → x ≡ Some []
last_whole None h = absurd cc
last_whole (Some []) h = refl
last_whole (Some (before l A ∷ es)) h = absurd cc
last_whole (Some (end l A ∷ es)) h = absurd cc
last_whole (Some (failing l ∷ es)) h = absurd cc

strict : (l : ℕ) (o : Option (List Entry)) → option_and_then (leading (last (fault l))) o ≡ None
strict l o = nowhere l o

module _ (us : Trees) where
  abbrev T : List Teller
  T = tellers us 1

  place_of : (l : ℕ) (u : Tree) → 1 ≤ l → slice_get (preorder (seq us)) l ≡ Some u → (i : ℕ) × (l ≡ 1 + i) × (slice_get (preorders us) i ≡ Some u)
  place_of zero u h e = absurd (omega (arith, h))
  place_of (suc i) u h e = (i, omega arith, e)

  there : (b : Body) → Stands (preorder (seq us)) b → IsThere T 0 0 b
  there b h =
      let p = place_of b.location b.node h.inside h.node_there in
      record {
        entries = λ c S.
            ap (λ l. told_by (slice_get T (l - 1)) c S) (zero-add b.location)
            ∙ body_told us 0 b.location p.0 b.node c S p.1 p.2;
        typed = h.typed;
      }

  views_there : (vs : List TypedView) → TypedStand (preorder (seq us)) vs → ViewsAreThere T 0 0 vs
  views_there [] h = tt
  views_there (v ∷ vs) h = (there v.body h.0, views_there vs h.1)

  abbrev by_typing : List Entry → Found Outline → Option (List Entry)
  by_typing es q = option_and_then (leading (last (and_then q with_bodies))) (past (of_blocks T (blocks_of.on_found q (outline_blocks 0))) es)

  walked : (o : Outline) → outline (seq us) ≡ found o → (es : List Entry) → by_typing es (outline (seq us)) ≡ option_and_then (leading fails) (script_walk o 0 es)
  walked o e es =
      let s : OutlineStands (preorder (seq us)) o = subst (FoundHas (OutlineStands (preorder (seq us)))) e (outline_stands us) in
      ap (by_typing es) e ∙ script_is T 0 0 last strict fails o (there o.code s.0) (views_there o.views s.1) (λ ws. refl) es

  found_whole : (q : Found Script) (x : Option (List Entry)) → option_and_then (leading (last q)) x ≡ Some [] → ((s : Script) × (q ≡ found s)) × (x ≡ Some [])
  found_whole (found s) x h = ((s, refl), last_whole x h)
  found_whole (fault l) x h = let n : None ≡ Some [] = sym (strict l x) ∙ h in absurd cc

  whole_walk : (x : Option (List Entry)) → is_whole x ≡ true → x ≡ Some []
  whole_walk None h = absurd cc
  whole_walk (Some []) h = refl
  whole_walk (Some (e ∷ es)) h = absurd cc

  -- what is confirmed is the derivation of a script that typing accepts
  walk_sound : (o : Outline) → outline (seq us) ≡ found o → (es : List Entry) → is_whole (script_walk o 0 es) ≡ true →
      ((s : Script) × (script (seq us) ≡ found s)) × (es ≡ derivation (seq us))
  walk_sound o e es h =
      let w : script_walk o 0 es ≡ Some [] = whole_walk (script_walk o 0 es) h in
      let r = found_whole (script (seq us)) (past (derivation (seq us)) es) (walked o e es ∙ ap (option_and_then (leading fails)) w) in
      (r.0, sym (past_same (derivation (seq us)) es r.1))

  -- and that is confirmed
  walk_complete : (o : Outline) → outline (seq us) ≡ found o → (s : Script) → script (seq us) ≡ found s → is_whole (script_walk o 0 (derivation (seq us))) ≡ true
  walk_complete o e s f =
      let D : List Entry = derivation (seq us) in
      let w : option_and_then (leading fails) (script_walk o 0 D) ≡ Some [] =
      sym (walked o e D) ∙ ap (λ q. option_and_then (leading (last q)) (past D D)) f ∙ ap (option_and_then (leading fails)) (past_refl D) in
      ap is_whole (last_whole (script_walk o 0 D) w)

-- ---- by what is found of the script

outline_then : (q : Found Outline) (s : Script) → and_then q with_bodies ≡ found s → (o : Outline) × (q ≡ found o)
outline_then (found o) s e = (o, refl)
outline_then (fault l) s e = absurd cc

confirms_sound : (t : Tree) (es : List Entry) → confirms (if_found (outline t)) es ≡ true → ((s : Script) × (script t ≡ found s)) × (es ≡ derivation t)
confirms_sound (seq us) es h = by (outline (seq us)) refl h
  where
    by : (q : Found Outline) → outline (seq us) ≡ q → confirms (if_found q) es ≡ true → ((s : Script) × (script (seq us) ≡ found s)) × (es ≡ derivation (seq us))
    by (found o) e h = walk_sound us o e es h
    by (fault l) e h = absurd cc
confirms_sound (int n) es h = absurd cc
confirms_sound (str s) es h = absurd cc
confirms_sound (bytes b) es h = absurd cc
confirms_sound (prim name annots ts) es h = absurd cc

confirms_complete : (t : Tree) (s : Script) → script t ≡ found s → confirms (if_found (outline t)) (derivation t) ≡ true
confirms_complete (seq us) s e =
    let o = outline_then (outline (seq us)) s e in
    ap (λ q. confirms (if_found q) (derivation (seq us))) o.1 ∙ walk_complete us o.0 o.1 s e
confirms_complete (int n) s e = absurd cc
confirms_complete (str z) s e = absurd cc
confirms_complete (bytes b) s e = absurd cc
confirms_complete (prim name annots ts) s e = absurd cc

-- ---- certificates

pub valid_is : (t : Tree) (es : List Entry) → confirms (if_found (outline t)) es ≡ true → IsValid (certified_node t es)
valid_is t es h =
    let r = confirms_sound t es h in
    record { script_node = t; accepted = r.0.0; is_accepted = r.0.1; is_certificate = ap (certified_node t) r.1 }

pub is_valid : (t : Tree) (es : List Entry) → IsValid (certified_node t es) → confirms (if_found (outline t)) es ≡ true
is_valid t es v =
    let r = valid_typed t es v in
    ap (confirms (if_found (outline t))) r.1 ∙ confirms_complete t r.0.0 r.0.1

-- the answer, where the entries are read
pub answered : {E : Type 0} (r : Result Bool E) (n t : Tree) (ts : Trees) (es : List Entry) → n ≡ certified_with t ts → ts ≡ entry_nodes es →
    IfOk r (λ q. q ≡ confirms (if_found (outline t)) es) → IfOk r (λ q. IsTrue q ↔ IsValid n)
answered (Err e) n t ts es f g h = h
answered (Ok q) n t ts es f g h =
    let whole : n ≡ certified_node t es = f ∙ ap (certified_with t) g in (
      λ b. subst IsValid (sym whole) (valid_is t es (sym h ∙ b)),
      λ v. h ∙ is_valid t es (subst IsValid whole v),
    )

-- no other node is valid
pub not_certified : (n : Tree) → IsNotCertified n → IsValid n → ⊥
not_certified n h v = h v.script_node (entry_nodes (derivation v.script_node)) v.is_certificate

told_types : (t : Tree) (s : Script) → script t ≡ found s → size t < 2 ^ 32 → AreTold (derivation t)
told_types (seq us) s e h = are_told (derivation (seq us)) (derived_types us s e) (derivation_below (2 ^ 32) (seq us) (omega (arith, h)))
told_types (int n) s e h = absurd cc
told_types (str z) s e h = absurd cc
told_types (bytes b) s e h = absurd cc
told_types (prim name annots ts) s e h = absurd cc

listed : (t u : Tree) (ts us : Trees) → certified_with t ts ≡ certified_with u us → ts ≡ us
listed t u ts us e = cc

pub not_listed : (n t : Tree) (ts : Trees) → n ≡ certified_with t ts → size n < 2 ^ 32 → NoEntries ts → IsValid n → ⊥
not_listed n t ts e h none_listed v =
    let u : Tree = v.script_node in
    let us : Trees = entry_nodes (derivation u) in
    let room : size (certified_with u us) < 2 ^ 32 = subst (λ n. size n < 2 ^ 32) v.is_certificate h in
    let same : certified_with t ts ≡ certified_with u us = sym e ∙ v.is_certificate in
    none_listed (derivation u) (told_types u v.accepted v.is_accepted (omega (arith, room))) (listed t u ts us same)

pub not_true : (n : Tree) → (IsValid n → ⊥) → IsTrue false ↔ IsValid n
not_true n h = (λ e. absurd cc, λ v. absurd (h v))

-- the parts are within the whole
pub parts_within : (n t : Tree) (ts : Trees) → n ≡ certified_with t ts → size n < 2 ^ 32 → (size t < 2 ^ 32) × (sizes ts < 2 ^ 32)
parts_within n t ts e h =
    let room : size (certified_with t ts) < 2 ^ 32 = subst (λ n. size n < 2 ^ 32) e h in
    (omega (arith, room), omega (arith, room))
