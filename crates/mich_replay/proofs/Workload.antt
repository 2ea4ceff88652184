-- A workload is read to its end, and none of its statements is refused.
use Rattle.std.proofs.Common.{◌≡◌, ℕ, zero, suc, ◌+◌, ◌*◌, ◌-◌, ◌/◌, ◌%◌, ◌^◌, ◌≤◌, ◌<◌, inl, inr, Bool, true, false, eqb, cond, List, [], ◌∷◌, ◌++◌, length, drop, Option, Some, None, Result, Ok, Err, codes, refl, sym, ap, ◌∙◌, subst, arith}
use Rattle.std.proofs.lemmas.Bool.{eqb-true}
use Rattle.std.proofs.lemmas.Fmt.{decimal_digit}
use Rattle.std.proofs.lemmas.List.{length-append, length-drop, drop-drop, append_assoc}
use Rattle.std.proofs.Math.Seq.{drop-append_seam}
use Rattle.std.specs.Prelude.{◌==◌}
use Rattle.std.specs.Fmt.{decimal}
use Rattle.hex.specs.Hex.{decode_pairs}
use Rattle.rules_text.specs.nodes.Limits.{depth_limit}
use Rattle.rules_text.specs.nodes.Tree.{Tree, Trees}
use Rattle.rules_files.specs.course.Course.{Course, numbered}
use Rattle.rules_text.specs.text.Fault.{Flaw}
use Rattle.rules_text.specs.text.Lexical.{after_gap, token_at, name_at, string_at, bytes_at, number_at}
use Rattle.rules_text.specs.text.Text.{Leads, IsLimit, IsNode, IsEnd}
use Rattle.rules_text.specs.text.Token.{Token}
use Rattle.rules_text.specs.declared.text.Shape.TheVariants.{Semicolon}
use Rattle.rules_files.specs.workload.Workload.{first_key_hash, second_key_hash, maker, keeper, second_account, maker_script, keeper_script, beginning, next, content, amount, call, calls, scenario}
use Rattle.rules_files.specs.statements.Statements.{Statement, Chain, Profile, Costs, Account, Block, Group, form}
use Rattle.rules_files.specs.commands.Places.{Placed, IsNodeAt, IsEndAt, AreStatements}
use Rattle.rules_files.specs.commands.Replay.{IsReplay, Closes, Run, going, stopped, stuck_run, run_all, continued, taken, State}
use Rattle.rules_world.specs.world.Groups.{Settled, group}
use Rattle.rules_world.specs.world.Receipts.{Receipt}
use Rattle.rules_world.specs.world.World.{World}
use Rattle.mich_text.specs.Machine.{Stack, elements, named, paren, Refusal, finish, has_statement, ended_tree, refused, put, run, step, start}
use Rattle.mich_text.proofs.ForCallers.{step_ok, gap_le, At, no_inner, end_same, node_same, closed_node, stands_within, NoStatement, statement_within}
use Rattle.mich_text.specs.pieces.Fronts.{IsClosed}
use Rattle.mich_text.proofs.pieces_lemmas.ForCallers.{closed_stays}
use Rattle.mich_replay.proofs.Closed.{signed}
use Rattle.mich_replay.proofs.Conserved.{no_group_is_stuck}

abbrev with_token : Token → Option (List Token × List ℕ) → Option (List Token × List ℕ)
with_token t None = None
with_token t (Some r) = Some (t ∷ r.0, r.1)

abbrev on_token : Result (Token × List ℕ) Flaw → (List ℕ → Option (List Token × List ℕ)) → Option (List Token × List ℕ)
on_token (Err e) f = None
on_token (Ok (t, behind)) f = with_token t (f behind)

abbrev on_gap : Option (List ℕ) → (List ℕ → Option (List Token × List ℕ)) → Option (List Token × List ℕ)
on_gap None f = None
on_gap (Some here) f = on_token (token_at here) f

abbrev lex_end : Option (List ℕ) → Option (List Token × List ℕ)
lex_end None = None
lex_end (Some rest) = Some ([], rest)

-- so many tokens, and what is behind them
abbrev lex : ℕ → List ℕ → Option (List Token × List ℕ)
lex zero text = lex_end (after_gap text)
lex (suc n) text = on_gap (after_gap text) (λ behind. lex n behind)

same_pair : (a b : List Token × List ℕ) → Some a ≡ Some b → a ≡ b
same_pair a b e = cc

no_pair : (a : List Token × List ℕ) → None ≡ Some a → ⊥
no_pair a e = absurd cc

-- what is read further on leads on
abbrev LeadsBy : (List ℕ → Option (List Token × List ℕ)) → Type 0
LeadsBy f = (b : List ℕ) (x : List Token × List ℕ) → f b ≡ Some x → Leads b x.0 (Some x.1)

by_rest : (txt here behind : List ℕ) (t : Token) (q : List Token × List ℕ) → after_gap txt ≡ Some here → token_at here ≡ Ok (t, behind) → (f : List ℕ → Option (List Token × List ℕ)) →
    LeadsBy f → (o : Option (List Token × List ℕ)) → f behind ≡ o → with_token t o ≡ Some q → Leads txt q.0 (Some q.1)
by_rest txt here behind t q g k f again None l e = absurd (no_pair q e)
by_rest txt here behind t q g k f again (Some x) l e =
    subst (λ (y : List Token × List ℕ). Leads txt y.0 (Some y.1)) (same_pair (t ∷ x.0, x.1) q e) (here, behind, g, k, again behind x l)

by_token : (txt here : List ℕ) (q : List Token × List ℕ) → after_gap txt ≡ Some here → (f : List ℕ → Option (List Token × List ℕ)) → LeadsBy f →
    (o : Result (Token × List ℕ) Flaw) → token_at here ≡ o → on_token o f ≡ Some q → Leads txt q.0 (Some q.1)
by_token txt here q g f again (Err x) k e = absurd (no_pair q e)
by_token txt here q g f again (Ok (t, behind)) k e = by_rest txt here behind t q g k f again (f behind) refl e

by_gap : (txt : List ℕ) (q : List Token × List ℕ) (f : List ℕ → Option (List Token × List ℕ)) → LeadsBy f →
    (o : Option (List ℕ)) → after_gap txt ≡ o → on_gap o f ≡ Some q → Leads txt q.0 (Some q.1)
by_gap txt q f again None g e = absurd (no_pair q e)
by_gap txt q f again (Some here) g e = by_token txt here q g f again (token_at here) refl e

by_end : (txt : List ℕ) (q : List Token × List ℕ) (o : Option (List ℕ)) → after_gap txt ≡ o → lex_end o ≡ Some q → Leads txt q.0 (Some q.1)
by_end txt q None g e = absurd (no_pair q e)
by_end txt q (Some rest) g e = subst (λ (y : List Token × List ℕ). Leads txt y.0 (Some y.1)) (same_pair ([], rest) q e) g

lexed : (n : ℕ) (text : List ℕ) (q : List Token × List ℕ) → lex n text ≡ Some q → Leads text q.0 (Some q.1)
lexed zero text q e = by_end text q (after_gap text) refl e
lexed (suc n) text q e = by_gap text q (λ behind. lex n behind) (λ b x f. lexed n b x f) (after_gap text) refl e

-- ---- the statement that so many tokens are, with a `;` and one more byte behind them

abbrev stood : Bool → Stack → Option Stack
stood true s = Some s
stood false s = None

abbrev ran : Result Stack Refusal → Option Stack
ran (Ok s) = stood (has_statement (finish s)) s
ran (Err r) = None

abbrev signed_by : Bool → Option Stack → Option Stack
signed_by true o = o
signed_by false o = None

abbrev parsed : Option (List Token × List ℕ) → Option Stack
parsed None = None
parsed (Some (ts, [])) = None
parsed (Some (ts, c ∷ [])) = None
parsed (Some (ts, c ∷ d ∷ [])) = signed_by (eqb c 59) (ran (run depth_limit start ts))
parsed (Some (ts, c ∷ d ∷ e ∷ rest)) = None

abbrev form_in : Option Stack → Option Statement
form_in None = None
form_in (Some s) = form (ended_tree (finish s) (Tree.seq Trees.none))

abbrev is_group : Option Statement → Bool
is_group None = false
is_group (Some (Chain id level moment)) = false
is_group (Some (Profile rate)) = false
is_group (Some (Costs table)) = false
is_group (Some (Account who mutez)) = false
is_group (Some (Block level moment)) = false
is_group (Some (Group source contents)) = true

-- ---- what is read so stands in a file

no_stack : (s : Stack) → None ≡ Some s → ⊥
no_stack s e = absurd cc

same_stack : (a b : Stack) → Some a ≡ Some b → a ≡ b
same_stack a b e = cc

fits : (w : Stack) → has_statement w ≡ true → refused depth_limit w Semicolon ≡ None
unfolding refused
fits [] h = absurd cc
fits (elements true es ready ∷ s) h = absurd cc
fits (elements false [] ready ∷ s) h = absurd cc
fits (elements false (e ∷ []) true ∷ s) h = absurd cc
fits (elements false (e ∷ []) false ∷ []) h = refl
fits (elements false (e ∷ []) false ∷ (f ∷ s)) h = absurd cc
fits (elements false (e ∷ d ∷ es) ready ∷ s) h = absurd cc
fits (named w n ns xs ∷ s) h = absurd cc
fits (paren ∷ s) h = absurd cc

sign_token : (d : ℕ) → token_at (59 ∷ d ∷ []) ≡ Ok (Token.semicolon, d ∷ [])
unfolding token_at
sign_token d = refl

first_of : (text : List ℕ) (ts : List Token) (rest : List ℕ) → Leads text ts (Some rest) → (first : List ℕ) × (after_gap text ≡ Some first)
first_of text [] rest l = (rest, l)
first_of text (t ∷ ts) rest l = (l.0, l.2)

module _ (place : ℕ) (text : List ℕ) (short : length text ≤ 4096) (near : place ≤ 1000000000) where
  unlimited : (limit : ℕ) → IsLimit place text limit → ⊥
  unlimited limit (inl s) = omega (arith, s.left_is, s.some, gap_le text s.first s.begins, short)
  unlimited limit (inr f) = omega (arith, f.left_is, f.some, short, near)

  closed_at : (ts : List Token) (d : ℕ) (s : Stack) → Leads text ts (Some (59 ∷ d ∷ [])) → run depth_limit start ts ≡ Ok s → has_statement (finish s) ≡ true →
      (start : ℕ) × IsClosed place text (ended_tree (finish s) (Tree.seq Trees.none)) start 1
  closed_at ts d s leads runs h =
      let first = first_of text ts (59 ∷ d ∷ []) leads in
      let inner = statement_within depth_limit s ts runs h in
      let at : At text ts (59 ∷ d ∷ []) s = record { leads = leads; runs = runs; lacks = subst NoStatement (sym inner.1) (no_inner inner.0) } in
      let p = closed_node text ts (59 ∷ d ∷ []) s (put Token.semicolon (finish s)) first.0 (d ∷ []) (Tree.seq Trees.none) at (omega arith) first.1 (sign_token d)
      (step_ok depth_limit s Token.semicolon (fits (finish s) h)) h in
      let node : IsNode place text (ended_tree (finish s) (Tree.seq Trees.none)) (length first.0) 1 = node_same place text unlimited (ended_tree (finish s) (Tree.seq Trees.none)) (length first.0) 1 p.0 in
      (length first.0, record { node = node; sign = signed node.stands.rest 1 (omega arith) node.stands.ends })

  by_has : (ts : List Token) (d : ℕ) (s z : Stack) → Leads text ts (Some (59 ∷ d ∷ [])) → run depth_limit start ts ≡ Ok z → (b : Bool) → has_statement (finish z) ≡ b → stood b z ≡ Some s →
      (start : ℕ) × IsClosed place text (ended_tree (finish s) (Tree.seq Trees.none)) start 1
  by_has ts d s z leads runs false h e = absurd (no_stack s e)
  by_has ts d s z leads runs true h e =
      let same = same_stack z s e in
      closed_at ts d s leads (runs ∙ ap (λ (x : Stack). Ok x) same) (ap (λ (x : Stack). has_statement (finish x)) (sym same) ∙ h)

  by_run : (ts : List Token) (d : ℕ) (s : Stack) → Leads text ts (Some (59 ∷ d ∷ [])) → (o : Result Stack Refusal) → run depth_limit start ts ≡ o → ran o ≡ Some s →
      (start : ℕ) × IsClosed place text (ended_tree (finish s) (Tree.seq Trees.none)) start 1
  by_run ts d s leads (Err r) runs e = absurd (no_stack s e)
  by_run ts d s leads (Ok z) runs e = by_has ts d s z leads runs (has_statement (finish z)) refl e

  by_sign : (ts : List Token) (c d : ℕ) (s : Stack) → Leads text ts (Some (c ∷ d ∷ [])) → (b : Bool) → eqb c 59 ≡ b → signed_by b (ran (run depth_limit start ts)) ≡ Some s →
      (start : ℕ) × IsClosed place text (ended_tree (finish s) (Tree.seq Trees.none)) start 1
  by_sign ts c d s leads false q e = absurd (no_stack s e)
  by_sign ts c d s leads true q e = by_run ts d s (subst (λ (x : ℕ). Leads text ts (Some (x ∷ d ∷ []))) (eqb-true c 59 q) leads) (run depth_limit start ts) refl e

  by_lex : (n : ℕ) (s : Stack) → (o : Option (List Token × List ℕ)) → lex n text ≡ o → parsed o ≡ Some s →
      (start : ℕ) × IsClosed place text (ended_tree (finish s) (Tree.seq Trees.none)) start 1
  by_lex n s None l e = absurd (no_stack s e)
  by_lex n s (Some (ts, [])) l e = absurd (no_stack s e)
  by_lex n s (Some (ts, c ∷ [])) l e = absurd (no_stack s e)
  by_lex n s (Some (ts, c ∷ d ∷ x ∷ rest)) l e = absurd (no_stack s e)
  by_lex n s (Some (ts, c ∷ d ∷ [])) l e = by_sign ts c d s (lexed n text (ts, c ∷ d ∷ []) l) (eqb c 59) refl e

  read_closed : (n : ℕ) (s : Stack) → parsed (lex n text) ≡ Some s → (start : ℕ) × IsClosed place text (ended_tree (finish s) (Tree.seq Trees.none)) start 1
  read_closed n s e = by_lex n s (lex n text) refl e

-- ---- statements in a file

drop_sum : (file front rest : List ℕ) (place : ℕ) → place ≤ length file → drop place file ≡ front ++ rest → length file ≡ place + (length front + length rest)
drop_sum file front rest place h e = omega (arith, length-drop place file, ap (λ (l : List ℕ). length l) e, length-append front rest, h)

record Stands (file : List ℕ) (place : ℕ) (t : Tree) (behind : ℕ) : Type 0 where
  first : ℕ
  node : IsNodeAt file place t first behind

stands_at : (file front rest : List ℕ) (place : ℕ) (t : Tree) (start : ℕ) → place ≤ length file → drop place file ≡ front ++ rest → IsClosed place front t start 1 →
    (behind : ℕ) × (behind + 1 ≡ place + length front) × Stands file place t behind
stands_at file front rest place t start h e c =
    let all = drop_sum file front rest place h e in
    let within_front = stands_within front t start 1 c.node.stands in
    let stays = closed_stays place front rest t start 1 c in
    let node : IsNode place (drop place file) t (start + length rest) (1 + length rest) = subst (λ (l : List ℕ). IsNode place l t (start + length rest) (1 + length rest)) (sym e) stays.node in (
      place + length front - 1,
      omega (arith, within_front),
      record {
        first = place + length front - start;
        node = (start + length rest, 1 + length rest, node, omega (arith, all, within_front), omega (arith, all, within_front));
      },
    )

after : (file front rest body : List ℕ) (place behind : ℕ) → drop place file ≡ front ++ rest → front ≡ body ++ 10 ∷ [] → behind + 1 ≡ place + length front → drop behind file ≡ 10 ∷ rest
after file front rest body place behind e f g =
    let size : length front ≡ length body + 1 = omega (arith, ap (λ (l : List ℕ). length l) f, length-append body (10 ∷ [])) in
    let there : place + length body ≡ behind = omega (arith, size, g) in
    sym (drop-drop (length body) place file ∙ ap (λ (k : ℕ). drop k file) there)
    ∙ ap (drop (length body)) (e ∙ ap (λ (l : List ℕ). l ++ rest) f ∙ append_assoc body (10 ∷ []) rest)
    ∙ drop-append_seam body (10 ∷ rest)

-- ---- the texts of the statements

abbrev body_call : Bool → ℕ → ℕ → List ℕ
body_call b x y =
    codes "\nGroup " ++ (first_key_hash ++ (codes " { Call 1 1000 0 " ++ (maker ++ (codes " \"default\" (Pair " ++ (cond b keeper second_account
    ++ (codes " " ++ (x ∷ (codes " " ++ (y ∷ codes ") };")))))))))

abbrev text_call : Bool → List ℕ → List ℕ → List ℕ
text_call b x y =
    codes "\nGroup " ++ (first_key_hash ++ (codes " { Call 1 1000 0 " ++ (maker ++ (codes " \"default\" (Pair " ++ (cond b keeper second_account
    ++ (codes " " ++ (x ++ (codes " " ++ (y ++ codes ") };\n")))))))))

abbrev Case : Bool → ℕ → ℕ → Type 0
Case b c a = (s : Stack) × (parsed (lex 16 (text_call b ((48 + c) ∷ []) ((48 + a) ∷ []))) ≡ Some s) × (is_group (form_in (Some s)) ≡ true)

case_of : (b : Bool) (c a : ℕ) → c < 2 → a < 8 → Case b c a
unfolding token_at name_at string_at bytes_at decode_pairs number_at run step
case_of true zero zero g h = (_, refl, refl)
case_of true zero (suc zero) g h = (_, refl, refl)
case_of true zero (suc (suc zero)) g h = (_, refl, refl)
case_of true zero (suc (suc (suc zero))) g h = (_, refl, refl)
case_of true zero (suc (suc (suc (suc zero)))) g h = (_, refl, refl)
case_of true zero (suc (suc (suc (suc (suc zero))))) g h = (_, refl, refl)
case_of true zero (suc (suc (suc (suc (suc (suc zero)))))) g h = (_, refl, refl)
case_of true zero (suc (suc (suc (suc (suc (suc (suc zero))))))) g h = (_, refl, refl)
case_of true (suc zero) zero g h = (_, refl, refl)
case_of true (suc zero) (suc zero) g h = (_, refl, refl)
case_of true (suc zero) (suc (suc zero)) g h = (_, refl, refl)
case_of true (suc zero) (suc (suc (suc zero))) g h = (_, refl, refl)
case_of true (suc zero) (suc (suc (suc (suc zero)))) g h = (_, refl, refl)
case_of true (suc zero) (suc (suc (suc (suc (suc zero))))) g h = (_, refl, refl)
case_of true (suc zero) (suc (suc (suc (suc (suc (suc zero)))))) g h = (_, refl, refl)
case_of true (suc zero) (suc (suc (suc (suc (suc (suc (suc zero))))))) g h = (_, refl, refl)
case_of true zero (suc (suc (suc (suc (suc (suc (suc (suc a)))))))) g h = absurd (omega (arith, h))
case_of true (suc zero) (suc (suc (suc (suc (suc (suc (suc (suc a)))))))) g h = absurd (omega (arith, h))
case_of true (suc (suc c)) a g h = absurd (omega (arith, g))
case_of false zero zero g h = (_, refl, refl)
case_of false zero (suc zero) g h = (_, refl, refl)
case_of false zero (suc (suc zero)) g h = (_, refl, refl)
case_of false zero (suc (suc (suc zero))) g h = (_, refl, refl)
case_of false zero (suc (suc (suc (suc zero)))) g h = (_, refl, refl)
case_of false zero (suc (suc (suc (suc (suc zero))))) g h = (_, refl, refl)
case_of false zero (suc (suc (suc (suc (suc (suc zero)))))) g h = (_, refl, refl)
case_of false zero (suc (suc (suc (suc (suc (suc (suc zero))))))) g h = (_, refl, refl)
case_of false (suc zero) zero g h = (_, refl, refl)
case_of false (suc zero) (suc zero) g h = (_, refl, refl)
case_of false (suc zero) (suc (suc zero)) g h = (_, refl, refl)
case_of false (suc zero) (suc (suc (suc zero))) g h = (_, refl, refl)
case_of false (suc zero) (suc (suc (suc (suc zero)))) g h = (_, refl, refl)
case_of false (suc zero) (suc (suc (suc (suc (suc zero))))) g h = (_, refl, refl)
case_of false (suc zero) (suc (suc (suc (suc (suc (suc zero)))))) g h = (_, refl, refl)
case_of false (suc zero) (suc (suc (suc (suc (suc (suc (suc zero))))))) g h = (_, refl, refl)
case_of false zero (suc (suc (suc (suc (suc (suc (suc (suc a)))))))) g h = absurd (omega (arith, h))
case_of false (suc zero) (suc (suc (suc (suc (suc (suc (suc (suc a)))))))) g h = absurd (omega (arith, h))
case_of false (suc (suc c)) a g h = absurd (omega (arith, g))

call_is : (y : ℕ) → 10 ∷ call y ≡ text_call (y / 2 ^ 33 % 2 == 1) ((48 + content y) ∷ []) ((48 + amount y) ∷ [])
call_is y =
    let b = y / 2 ^ 33 % 2 == 1 in
    let same : 10 ∷ call y ≡ text_call b (decimal (content y)) (decimal (amount y)) = refl in
    same ∙ ap (λ (l : List ℕ). text_call b l (decimal (amount y))) (decimal_digit (content y) (omega arith))
    ∙ ap (λ (l : List ℕ). text_call b ((48 + content y) ∷ []) l) (decimal_digit (amount y) (omega arith))

size_call : (b : Bool) (x y : ℕ) → length (text_call b (x ∷ []) (y ∷ [])) ≡ 186
size_call true x y = refl
size_call false x y = refl

ends_call : (b : Bool) (x y : ℕ) → text_call b (x ∷ []) (y ∷ []) ≡ body_call b x y ++ 10 ∷ []
ends_call true x y = refl
ends_call false x y = refl

-- ---- the groups

abbrev AllGroups : List Placed → Type 0
AllGroups [] = Unit {0}
AllGroups (s ∷ ss) = (is_group (form s.node) ≡ true) × AllGroups ss

record Stood (file : List ℕ) (place : ℕ) : Type 0 where
  ss : List Placed
  to : ℕ
  stand : AreStatements file place ss to
  end : drop to file ≡ 10 ∷ []
  near : to ≤ length file
  groups : AllGroups ss

groups_stand : (n x : ℕ) (file : List ℕ) (place : ℕ) → place ≤ length file → length file ≤ 1000000000 → drop place file ≡ 10 ∷ calls n x → Stood file place
groups_stand zero x file place h small e = record { ss = []; to = place; stand = refl; end = e; near = h; groups = tt }
groups_stand (suc n) x file place h small e =
    let y = next x in
    let b = y / 2 ^ 33 % 2 == 1 in
    let front = text_call b ((48 + content y) ∷ []) ((48 + amount y) ∷ []) in
    let rest = calls n y in
    let k = case_of b (content y) (amount y) (omega arith) (omega arith) in
    let starts : drop place file ≡ front ++ rest = e ∙ ap (λ (l : List ℕ). l ++ rest) (call_is y) in
    let size = size_call b (48 + content y) (48 + amount y) in
    let c = read_closed place front (omega (arith, size)) (omega (arith, h, small)) 16 k.0 k.1 in
    let s = stands_at file front rest place (ended_tree (finish k.0) (Tree.seq Trees.none)) c.0 h starts c.1 in
    let all = drop_sum file front rest place h starts in
    let on = groups_stand n y file s.0 (omega (arith, s.1, all)) small (after file front rest (body_call b (48 + content y) (48 + amount y)) place s.0 starts (ends_call b (48 + content y) (48 + amount y)) s.1) in
    record {
      ss = record { place = s.2.first; node = ended_tree (finish k.0) (Tree.seq Trees.none) } ∷ on.ss;
      to = on.to;
      stand = (s.0, s.2.node, on.stand);
      end = on.end;
      near = on.near;
      groups = (k.2, on.groups);
    }

abbrev GoesOrStuck : Run → Type 0
GoesOrStuck (going rs (Some c)) = Unit {0}
GoesOrStuck (going rs None) = ⊥
GoesOrStuck (stopped rs f place) = ⊥
GoesOrStuck stuck_run = Unit {0}

stays_stuck : (ss : List Placed) → run_all stuck_run ss ≡ stuck_run
stays_stuck [] = refl
stays_stuck (s ∷ ss) = stays_stuck ss

module _ (ss : List Placed) (place : ℕ) (rs : List Receipt) (c : Course) (again : (r : List Receipt) (d : Course) → GoesOrStuck (run_all (going r (Some d)) ss)) where
  by_group : (o : Option Settled) → GoesOrStuck (run_all (continued rs place (numbered c o)) ss)
  by_group None = subst GoesOrStuck (sym (stays_stuck ss)) tt
  by_group (Some settled) = again _ _

  by_form : (o : Option Statement) → is_group o ≡ true → GoesOrStuck (run_all (taken rs (Some c) place o) ss)
  by_form None e = absurd cc
  by_form (Some (Chain id level moment)) e = absurd cc
  by_form (Some (Profile rate)) e = absurd cc
  by_form (Some (Costs table)) e = absurd cc
  by_form (Some (Account who mutez)) e = absurd cc
  by_form (Some (Block level moment)) e = absurd cc
  by_form (Some (Group source contents)) e = by_group (group c.prices (c.groups + 1) source contents c.world)

groups_run : (ss : List Placed) → AllGroups ss → (rs : List Receipt) (c : Course) → GoesOrStuck (run_all (going rs (Some c)) ss)
groups_run [] a rs c = tt
groups_run (s ∷ ss) a rs c = by_form ss s.place rs c (λ r d. groups_run ss a.1 r d) (form s.node) a.0

-- ---- the statements before the calls

abbrev chain_text : List ℕ
chain_text = codes "Chain 0x00000001 1 0;\n"

abbrev first_text : List ℕ
first_text = codes "\nAccount " ++ (first_key_hash ++ codes " 1000000000;\n")

abbrev second_text : List ℕ
second_text = codes "\nAccount " ++ (second_key_hash ++ codes " 0;\n")

abbrev group_text : List ℕ
group_text = codes "\nGroup " ++ (first_key_hash ++ (codes " { Originate 0 1 0 " ++ (maker_script ++ (codes " Unit ; Originate 0 1 0 " ++ (keeper_script ++ codes " None };\n")))))

abbrev IsRead : ℕ → List ℕ → Type 0
IsRead n text = (s : Stack) × (parsed (lex n text) ≡ Some s)

chain_read : IsRead 4 chain_text
unfolding token_at name_at string_at bytes_at decode_pairs number_at run step
chain_read = (_, refl)

first_read : IsRead 3 first_text
unfolding token_at name_at string_at bytes_at decode_pairs number_at run step
first_read = (_, refl)

second_read : IsRead 3 second_text
unfolding token_at name_at string_at bytes_at decode_pairs number_at run step
second_read = (_, refl)

group_read : IsRead 133 group_text
unfolding token_at name_at string_at bytes_at decode_pairs number_at run step
group_read = (_, refl)

abbrev node_in : Stack → Tree
node_in s = ended_tree (finish s) (Tree.seq Trees.none)

group_form : is_group (form (node_in group_read.0)) ≡ true
unfolding token_at name_at string_at bytes_at decode_pairs number_at run step group_read
group_form = refl

begun_run : (a b d : ℕ) → (c : Course) × (run_all (going [] None) (record { place = a; node = node_in chain_read.0 } ∷ record { place = b; node = node_in first_read.0 } ∷ record { place = d; node = node_in second_read.0 } ∷ []) ≡ going [] (Some c))
unfolding token_at name_at string_at bytes_at decode_pairs number_at run step chain_read first_read second_read
begun_run a b d = (_, refl)

chain_size : length chain_text ≡ 22
chain_size = refl

first_size : length first_text ≡ 66
first_size = refl

second_size : length second_text ≡ 57
second_size = refl

group_size : length group_text ≡ 561
group_size = refl

record Next (file : List ℕ) (place : ℕ) (t : Tree) (rest : List ℕ) : Type 0 where
  behind : ℕ
  node : Stands file place t behind
  on : drop behind file ≡ 10 ∷ rest
  near : behind ≤ length file

next_at : (file front rest body : List ℕ) (place n : ℕ) (k : IsRead n front) → place ≤ length file → length file ≤ 1000000000 → length front ≤ 4096 → drop place file ≡ front ++ rest →
    front ≡ body ++ 10 ∷ [] → Next file place (node_in k.0) rest
next_at file front rest body place n k h small short e f =
    let c = read_closed place front short (omega (arith, h, small)) n k.0 k.1 in
    let s = stands_at file front rest place (node_in k.0) c.0 h e c.1 in
    record { behind = s.0; node = s.2; on = after file front rest body place s.0 e f s.1; near = omega (arith, s.1, drop_sum file front rest place h e) }

calls_size : (n x : ℕ) → length (calls n x) ≤ n * 300
calls_size zero x = omega arith
calls_size (suc n) x =
    let y = next x in
    let one = ap (λ (l : List ℕ). length l) (call_is y) ∙ size_call (y / 2 ^ 33 % 2 == 1) (48 + content y) (48 + amount y) in
    omega (arith, length-append (call y) (calls n y), one, calls_size n y)

scenario_size : (n : ℕ) → n ≤ 100000 → length (scenario n) ≤ 1000000000
scenario_size n h =
    let all : length beginning ≡ 703 = refl in
    omega (arith, length-append beginning (calls n 0), calls_size n 0, h, all)

module _ (n : ℕ) (few : n ≤ 100000) where
  abbrev file : List ℕ
  file = scenario n

  small : length file ≤ 1000000000
  small = scenario_size n few

  abbrev rest3 : List ℕ
  rest3 = calls n 0

  abbrev rest2 : List ℕ
  rest2 = drop 1 group_text ++ calls n 0

  abbrev rest1 : List ℕ
  rest1 = drop 1 second_text ++ (drop 1 group_text ++ calls n 0)

  abbrev rest0 : List ℕ
  rest0 = drop 1 first_text ++ (drop 1 second_text ++ (drop 1 group_text ++ calls n 0))

  n0 : Next file 0 (node_in chain_read.0) rest0
  n0 = next_at file chain_text rest0 (codes "Chain 0x00000001 1 0;") 0 4 chain_read (omega arith) small (omega (arith, chain_size)) refl refl

  n1 : Next file n0.behind (node_in first_read.0) rest1
  n1 = next_at file first_text rest1 (codes "\nAccount " ++ (first_key_hash ++ codes " 1000000000;")) n0.behind 3 first_read n0.near small (omega (arith, first_size)) n0.on refl

  n2 : Next file n1.behind (node_in second_read.0) rest2
  n2 = next_at file second_text rest2 (codes "\nAccount " ++ (second_key_hash ++ codes " 0;")) n1.behind 3 second_read n1.near small (omega (arith, second_size)) n1.on refl

  n3 : Next file n2.behind (node_in group_read.0) rest3
  n3 = next_at file group_text rest3 (codes "\nGroup " ++ (first_key_hash ++ (codes " { Originate 0 1 0 " ++ (maker_script ++ (codes " Unit ; Originate 0 1 0 " ++ (keeper_script ++ codes " None };"))))))
      n2.behind 133 group_read n2.near small (omega (arith, group_size)) n2.on refl

  last : Stood file n3.behind
  last = groups_stand n 0 file n3.behind n3.near small n3.on

  begun : (c : Course) × (run_all (going [] None) (record { place = n0.node.first; node = node_in chain_read.0 } ∷ record { place = n1.node.first; node = node_in first_read.0 } ∷ record { place = n2.node.first; node = node_in second_read.0 } ∷ []) ≡ going [] (Some c))
  begun = begun_run n0.node.first n1.node.first n2.node.first

  abbrev groups : List Placed
  groups = record { place = n3.node.first; node = node_in group_read.0 } ∷ last.ss

  abbrev all : List Placed
  all = record { place = n0.node.first; node = node_in chain_read.0 } ∷ record { place = n1.node.first; node = node_in first_read.0 } ∷ record { place = n2.node.first; node = node_in second_read.0 } ∷ groups

  stand : AreStatements file 0 all last.to
  stand = (n0.behind, n0.node.node, (n1.behind, n1.node.node, (n2.behind, n2.node.node, (n3.behind, n3.node.node, last.stand))))

  goes : run_all (going [] None) all ≡ run_all (going [] (Some begun.0)) groups
  goes = ap (λ (r : Run). run_all r groups) begun.1

  end : IsEndAt file last.to
  end = subst (IsEnd last.to) (sym last.end) (end_same last.to (10 ∷ []) (unlimited last.to (10 ∷ []) (omega arith) (omega (arith, last.near, small))) refl)

  by : (r : Run) → run_all (going [] (Some begun.0)) groups ≡ r → GoesOrStuck (run_all (going [] (Some begun.0)) groups) → (receipts : List Receipt) × (w : World) × IsReplay (scenario n) (record { receipts = receipts; ending = State w })
  by (going rs (Some c)) e g = (rs, c.world, record { statements = all; to = last.to; stand = stand; closes = subst (λ (x : Run). Closes file last.to x (record { receipts = rs; ending = State c.world })) (sym (goes ∙ e)) (inl (end, refl)) })
  by (going rs None) e g = absurd (subst GoesOrStuck e g)
  by (stopped rs f place) e g = absurd (subst GoesOrStuck e g)
  by stuck_run e g = absurd (no_group_is_stuck file all last.to stand (goes ∙ e))

  pub workload_replays : (receipts : List Receipt) × (w : World) × IsReplay (scenario n) (record { receipts = receipts; ending = State w })
  workload_replays = by (run_all (going [] (Some begun.0)) groups) refl (groups_run groups (group_form, last.groups) [] begun.0)
