-- The bodies in literals, with their typed code.
use Rattle.std.proofs.Common.{◌≡◌, ℕ, suc, ◌+◌, ◌<◌, ◌≤◌, Bool, true, List, [], ◌∷◌, ◌++◌, drop, length, get_or, Option, refl, sym, ap, ◌∙◌, subst, drop-cons, add-one}
use Rattle.std.proofs.lemmas.List.{drop_all}
use Rattle.rules_text.specs.nodes.Tree.{Tree, seq, Trees, none}
use Rattle.rules_data.specs.types.Kind.{Kind}
use Rattle.rules_data.specs.values.Literals.{Pending, body, claim}
use Rattle.rules_code.specs.instructions.Context.{Context, lambda}
use Rattle.rules_code.specs.instructions.Control.{call_kinds}
use Rattle.mich_base.specs.declared.ty.Ty.{Ty}
use Rattle.mich_data.specs.View.{pending, all_pending}
use Rattle.mich_data.specs.declared.pending.Pending.{Pending as Item}
use Rattle.mich_instr.specs.Body.{AllHeld, inside}
use Rattle.mich_instr.specs.Code.{Code, Codes, joined}
use Rattle.mich_instr.specs.Code as made
use Rattle.mich_instr.specs.Typed.{IsCode, AreCode, AreHeld, is_seq, none_held, held_claim, held_body}
use Rattle.mich_instr.specs.View.{code, codes}
use Rattle.mich_instr.specs.declared.instr.Instr.{Instr}
use Rattle.mich_control.specs.Answers.{Leads, ends_in}
use Rattle.mich_control.proofs.ForCallers.{ended_leads}
use Rattle.mich_check.specs.Pending.{AreSequences}

-- ---- one body

inner : (c : Context) (ts : Trees) (i : Code) (A B : List Kind) → IsCode c (seq ts) i A B → (is : Codes) × (i ≡ made.seq is) × AreCode c ts is A B
inner c ts _ A B (is_seq {is = is} x) = (is, refl, x)

pub called_code : (a r : Kind) (recursive : Bool) (u : Tree) (S C : List Kind) (o : Option (List Ty)) (i : Code) (js : Codes) → S ≡ call_kinds a r recursive → C ≡ r ∷ [] →
    ends_in o C ≡ true → Leads (λ B. IsCode lambda u i S B) o → ((is : Codes) → i ≡ made.seq is → js ≡ is) → (ts : Trees) → u ≡ seq ts →
    AreCode lambda ts js (call_kinds a r recursive) (r ∷ [])
called_code a r recursive u S C o i js s e k l given ts seq_is =
    let x : IsCode lambda u i S C = ended_leads o C (λ B. IsCode lambda u i S B) k l in
    let y : IsCode lambda (seq ts) i (call_kinds a r recursive) (r ∷ []) =
    subst (λ u. IsCode lambda u i (call_kinds a r recursive) (r ∷ [])) seq_is (subst (λ A. IsCode lambda u i A (r ∷ [])) s (subst (λ B. IsCode lambda u i S B) e x)) in
    let z = inner lambda ts i (call_kinds a r recursive) (r ∷ []) y in
    subst (λ is. AreCode lambda ts is (call_kinds a r recursive) (r ∷ [])) (sym (given z.0 z.1)) z.2

pub held_one : (l : ℕ) (a r : Kind) (recursive : Bool) (t : Tree) (i : Code) (is : Codes) → i ≡ made.lambda recursive a r none t is →
    ((ts : Trees) → t ≡ seq ts → AreCode lambda ts is (call_kinds a r recursive) (r ∷ [])) → AreSequences (body l a r recursive t ∷ []) →
    AreHeld (body l a r recursive t ∷ []) (made.more i made.none)
held_one l a r recursive t i is e fine s =
    subst (λ j. AreHeld (body l a r recursive t ∷ []) (made.more j made.none)) (sym e)
    (subst (λ t. AreHeld (body l a r recursive t ∷ []) (made.more (made.lambda recursive a r none t is) made.none)) (sym s.0)
    (held_body (fine (inside t) s.0) none_held))

-- ---- one after another

held_more : (p : Pending) (ps : List Pending) (is js : Codes) → AreHeld (p ∷ []) is → AreHeld ps js → AreHeld (p ∷ ps) (joined is js)
held_more (claim l b a) ps _ js (held_claim none_held) g = held_claim g
held_more (body l a r recursive t) ps _ js (held_body x none_held) g = held_body x g

joined_joined : (is js ks : Codes) → joined (joined is js) ks ≡ joined is (joined js ks)
joined_joined made.none js ks = refl
joined_joined (made.more i is) js ks = ap (made.more i) (joined_joined is js ks)

joined_none : (is : Codes) → joined is made.none ≡ is
joined_none made.none = refl
joined_none (made.more i is) = ap (made.more i) (joined_none is)

pub put_some : (is js : List Instr) (i : Instr) → js ≡ is ++ i ∷ [] → codes js ≡ joined (codes is) (made.more (code i) made.none)
put_some is js i e = ap codes e ∙ by is
  where
    by : (is : List Instr) → codes (is ++ i ∷ []) ≡ joined (codes is) (made.more (code i) made.none)
    by [] = refl
    by (x ∷ xs) = ap (made.more (code x)) (by xs)

pub put_none : (is : List Instr) → codes is ≡ joined (codes is) made.none
put_none is = sym (joined_none (codes is))

sequence_first : (p : Pending) (ps : List Pending) → AreSequences (p ∷ ps) → AreSequences (p ∷ []) × AreSequences ps
sequence_first (body l a r recursive t) ps h = ((h.0, tt), h.1)
sequence_first (claim l b a) ps h = (tt, h)

-- what is still to come makes the whole of it
abbrev pub Awaits : List Pending → List Pending → Codes → Type 0
Awaits whole rest is = AreSequences rest × ((js : Codes) → AreHeld rest js → AreHeld whole (joined is js))

pub awaits_none : (ps : List Pending) (is : Codes) → is ≡ made.none → AreSequences ps → Awaits ps ps is
awaits_none ps is e s = (s, λ js h. subst (λ is. AreHeld ps (joined is js)) (sym e) h)

module _ (ps : List Item) (i : ℕ) (p : Item) (h : i < length ps) (e : p ≡ get_or ps i p) where
  items_at : all_pending (drop i ps) ≡ pending p ∷ all_pending (drop (i + 1) ps)
  items_at =
      ap all_pending (drop-cons ps i p h) ∙ ap (λ x. pending x ∷ all_pending (drop (suc i) ps)) (sym e)
      ∙ ap (λ k. pending p ∷ all_pending (drop k ps)) (sym (add-one i))

  pub awaits_next : (whole : List Pending) (is ks js : Codes) → ks ≡ joined is js → (AreSequences (pending p ∷ []) → AreHeld (pending p ∷ []) js) →
      Awaits whole (all_pending (drop i ps)) is → Awaits whole (all_pending (drop (i + 1) ps)) ks
  awaits_next whole is ks js m one w =
      let rest : List Pending = all_pending (drop (i + 1) ps) in
      let v : Awaits whole (pending p ∷ rest) is = subst (λ xs. Awaits whole xs is) items_at w in
      let s = sequence_first (pending p) rest v.0 in (
        s.1,
        λ qs g. subst (AreHeld whole) (sym (ap (λ x. joined x qs) m ∙ joined_joined is js qs)) (v.1 (joined js qs) (held_more (pending p) rest js qs (one s.0) g)),
      )

pub awaits_end : (whole : List Pending) (ps : List Item) (i : ℕ) (is : Codes) → length ps ≤ i → Awaits whole (all_pending (drop i ps)) is → AreHeld whole is
awaits_end whole ps i is h w =
    let v : Awaits whole [] is = subst (λ xs. Awaits whole (all_pending xs) is) (drop_all i ps h) w in
    subst (AreHeld whole) (joined_none is) (v.1 made.none none_held)

-- ---- what is held

pub all_held : (ps : List Pending) (is : Codes) → AreHeld ps is → AllHeld is
all_held [] _ none_held = tt
all_held (claim l b a ∷ ps) is (held_claim h) = all_held ps is h
all_held (body l a r recursive t ∷ ps) _ (held_body {js = js} x h) = (x, all_held ps js h)
