-- The verdict on lines, told with the last one first.
use Rattle.std.proofs.Common.{◌≡◌, ◌≢◌, ℕ, ◌+◌, ◌<◌, ◌≤◌, ◌==◌, Bool, true, false, List, [], ◌∷◌, ◌++◌, length, refl, sym, ap, ◌∙◌, subst, arith, reverse, append-nil, append_assoc}
use Rattle.std.specs.Prelude.{◌&&◌, ◌||◌, if◌then◌else◌, Some, None}
use Rattle.std.specs.declared.option.Option.{Option}
use Rattle.std.specs.List.{list_all, list_any}
use Rattle.std.proofs.lemmas.Bool.Decides.{Decides-eqb}
use Rattle.std.proofs.lemmas.List.{reverse-append}
use Rattle.std.proofs.lemmas.List.Folds.{list_all-append, list_any-append}
use Rattle.rules_audit.specs.Fields.{Identity, Sort, minted, burnt, held, Part}
use Rattle.rules_audit.specs.Lines.{Line, group, account, contract, tickets, fees, storage_burn, supply}
use Rattle.rules_audit.specs.Form.{last_rank, ended, formed, bad_form, is_of}
use Rattle.rules_audit.specs.Verdicts.{Verdict, agrees, differs_supply, differs_tickets, differs_missing, is_bad_form, mutez_in, all_mutez, parts_in, all_parts, tells_supply, supply_agrees, amount_of, total, ticket_agrees, first_wrong, has_line, unless_missing, unless_wrong, verdict}
use Rattle.rules_audit.specs.Audits.{verdict_on}
use Rattle.mich_audit.specs.Tallies.{tickets_among, unless_before, wrong_in}

reverse_more : {A : Type 0} (x : A) (xs : List A) → reverse (x ∷ xs) ≡ reverse xs ++ x ∷ []
reverse_more x xs = reverse-append (x ∷ []) xs

and_last : (a b : Bool) → a && (b && true) ≡ b && a
and_last true true = refl
and_last true false = refl
and_last false true = refl
and_last false false = refl

or_last : (a b : Bool) → a || (b || false) ≡ b || a
or_last true true = refl
or_last true false = refl
or_last false true = refl
or_last false false = refl

and_swapped : (a b : Bool) → a && b ≡ b && a
and_swapped true true = refl
and_swapped true false = refl
and_swapped false true = refl
and_swapped false false = refl

-- ---- tests of lines

all_reversed : (test : Line → Bool) (ls : List Line) → list_all test (reverse ls) ≡ list_all test ls
all_reversed test [] = refl
all_reversed test (l ∷ ls) =
    ap (list_all test) (reverse_more l ls) ∙ list_all-append test (reverse ls) (l ∷ []) ∙ ap (λ b. b && (test l && true)) (all_reversed test ls) ∙ and_last (list_all test ls) (test l)

any_reversed : (test : Line → Bool) (ls : List Line) → list_any test (reverse ls) ≡ list_any test ls
any_reversed test [] = refl
any_reversed test (l ∷ ls) =
    ap (list_any test) (reverse_more l ls) ∙ list_any-append test (reverse ls) (l ∷ []) ∙ ap (λ b. b || (test l || false)) (any_reversed test ls) ∙ or_last (list_any test ls) (test l)

-- ---- sums

mutez_last : (ls : List Line) (l : Line) → all_mutez (ls ++ l ∷ []) ≡ all_mutez ls + mutez_in l
mutez_last [] l = omega arith
mutez_last (m ∷ ls) l = let e : all_mutez (ls ++ l ∷ []) ≡ all_mutez ls + mutez_in l = mutez_last ls l in omega (arith, e)

mutez_reversed : (ls : List Line) → all_mutez (reverse ls) ≡ all_mutez ls
mutez_reversed [] = refl
mutez_reversed (l ∷ ls) =
    let e : all_mutez (reverse ls) ≡ all_mutez ls = mutez_reversed ls in
    let f : all_mutez (reverse ls ++ l ∷ []) ≡ all_mutez (reverse ls) + mutez_in l = mutez_last (reverse ls) l in
    ap all_mutez (reverse_more l ls) ∙ omega (arith, e, f)

parts_last : (ls : List Line) (l : Line) → all_parts (ls ++ l ∷ []) ≡ all_parts ls ++ parts_in l
parts_last [] l = append-nil (parts_in l)
parts_last (m ∷ ls) l = ap (λ (ps : List Part). parts_in m ++ ps) (parts_last ls l) ∙ sym (append_assoc (parts_in m) (all_parts ls) (parts_in l))

total_both : (s : Sort) (id : Identity) (ps qs : List Part) → total s id (ps ++ qs) ≡ total s id ps + total s id qs
total_both s id [] qs = omega arith
total_both s id (p ∷ ps) qs = let e : total s id (ps ++ qs) ≡ total s id ps + total s id qs = total_both s id ps qs in omega (arith, e)

total_reversed : (s : Sort) (id : Identity) (ls : List Line) → total s id (all_parts (reverse ls)) ≡ total s id (all_parts ls)
total_reversed s id [] = refl
total_reversed s id (l ∷ ls) =
    let e : total s id (all_parts (reverse ls)) ≡ total s id (all_parts ls) = total_reversed s id ls in
    let f : total s id (all_parts (reverse ls) ++ parts_in l) ≡ total s id (all_parts (reverse ls)) + total s id (parts_in l) = total_both s id (all_parts (reverse ls)) (parts_in l) in
    let g : total s id (parts_in l ++ all_parts ls) ≡ total s id (parts_in l) + total s id (all_parts ls) = total_both s id (parts_in l) (all_parts ls) in
    ap (λ (ms : List Line). total s id (all_parts ms)) (reverse_more l ls) ∙ ap (total s id) (parts_last (reverse ls) l) ∙ omega (arith, e, f, g)

all_parts_reversed : (test : Part → Bool) (ls : List Line) → list_all test (all_parts (reverse ls)) ≡ list_all test (all_parts ls)
all_parts_reversed test [] = refl
all_parts_reversed test (l ∷ ls) =
    ap (λ (ms : List Line). list_all test (all_parts ms)) (reverse_more l ls) ∙ ap (list_all test) (parts_last (reverse ls) l)
    ∙ list_all-append test (all_parts (reverse ls)) (parts_in l) ∙ ap (λ b. b && list_all test (parts_in l)) (all_parts_reversed test ls)
    ∙ and_swapped (list_all test (all_parts ls)) (list_all test (parts_in l)) ∙ sym (list_all-append test (parts_in l) (all_parts ls))

-- ---- the first wrong line

abbrev or_else : Option ℕ → Option ℕ → Option ℕ
or_else (Some k) other = Some k
or_else None other = other

among_last : (ls : List Line) (l : Line) → tickets_among (ls ++ l ∷ []) ≡ tickets_among ls + tickets_among (l ∷ [])
among_last [] l = omega arith
among_last (group n ps ∷ ls) l = among_last ls l
among_last (account b ps ∷ ls) l = among_last ls l
among_last (contract b ps fourth ∷ ls) l = among_last ls l
among_last (tickets id m b h ∷ ls) l = let e : tickets_among (ls ++ l ∷ []) ≡ tickets_among ls + tickets_among (l ∷ []) = among_last ls l in omega (arith, e)
among_last (fees n ∷ ls) l = among_last ls l
among_last (storage_burn n ∷ ls) l = among_last ls l
among_last (supply n ∷ ls) l = among_last ls l

among_first : (l : Line) (ls : List Line) → tickets_among (l ∷ ls) ≡ tickets_among ls + tickets_among (l ∷ [])
among_first (group n ps) ls = omega arith
among_first (account b ps) ls = omega arith
among_first (contract b ps fourth) ls = omega arith
among_first (tickets id m b h) ls = omega arith
among_first (fees n) ls = omega arith
among_first (storage_burn n) ls = omega arith
among_first (supply n) ls = omega arith

among_reversed : (ls : List Line) → tickets_among (reverse ls) ≡ tickets_among ls
among_reversed [] = refl
among_reversed (l ∷ ls) =
    ap tickets_among (reverse_more l ls) ∙ among_last (reverse ls) l ∙ ap (λ n. n + tickets_among (l ∷ [])) (among_reversed ls) ∙ sym (among_first l ls)

module _ (ps : List Part) where
  wrong_last : (k : ℕ) (ls : List Line) (l : Line) → first_wrong ps k (ls ++ l ∷ []) ≡ or_else (first_wrong ps k ls) (first_wrong ps (k + tickets_among ls) (l ∷ []))
  wrong_last k [] l = ap (λ n. first_wrong ps n (l ∷ [])) (omega arith)
  wrong_last k (group n qs ∷ ls) l = wrong_last k ls l
  wrong_last k (account b qs ∷ ls) l = wrong_last k ls l
  wrong_last k (contract b qs fourth ∷ ls) l = wrong_last k ls l
  wrong_last k (tickets id m b h ∷ ls) l = by (ticket_agrees ps id m b h) (wrong_last (k + 1) ls l) where
    by : (right : Bool) → first_wrong ps (k + 1) (ls ++ l ∷ []) ≡ or_else (first_wrong ps (k + 1) ls) (first_wrong ps (k + 1 + tickets_among ls) (l ∷ [])) → (if right then first_wrong ps (k + 1) (ls ++ l ∷ []) else Some k)
        ≡ or_else (if right then first_wrong ps (k + 1) ls else Some k) (first_wrong ps (k + (tickets_among ls + 1)) (l ∷ []))
    by true e = e ∙ ap (λ n. or_else (first_wrong ps (k + 1) ls) (first_wrong ps n (l ∷ []))) (omega arith)
    by false e = refl
  wrong_last k (fees n ∷ ls) l = wrong_last k ls l
  wrong_last k (storage_burn n ∷ ls) l = wrong_last k ls l
  wrong_last k (supply n ∷ ls) l = wrong_last k ls l

  or_none : (o : Option ℕ) → or_else o None ≡ o
  or_none (Some k) = refl
  or_none None = refl

  wrong_one : (l : Line) (ls : List Line) → or_else (wrong_in ps ls) (first_wrong ps (1 + tickets_among ls) (l ∷ [])) ≡ wrong_in ps (l ∷ ls)
  wrong_one (group n qs) ls = or_none (wrong_in ps ls)
  wrong_one (account b qs) ls = or_none (wrong_in ps ls)
  wrong_one (contract b qs fourth) ls = or_none (wrong_in ps ls)
  wrong_one (tickets id m b h) ls = by (wrong_in ps ls) (ticket_agrees ps id m b h) where
    by : (o : Option ℕ) (right : Bool) → or_else o (if right then None else Some (1 + tickets_among ls)) ≡ unless_before o right (tickets_among ls + 1)
    by (Some k) right = refl
    by None true = refl
    by None false = ap Some (omega arith)
  wrong_one (fees n) ls = or_none (wrong_in ps ls)
  wrong_one (storage_burn n) ls = or_none (wrong_in ps ls)
  wrong_one (supply n) ls = or_none (wrong_in ps ls)

  wrong_reversed : (ls : List Line) → first_wrong ps 1 (reverse ls) ≡ wrong_in ps ls
  wrong_reversed [] = refl
  wrong_reversed (l ∷ ls) =
      ap (first_wrong ps 1) (reverse_more l ls) ∙ wrong_last 1 (reverse ls) l
      ∙ (λ i. or_else (wrong_reversed ls i) (first_wrong ps (1 + among_reversed ls i) (l ∷ []))) ∙ wrong_one l ls

module _ (ps qs : List Part) (same : (s : Sort) (id : Identity) → total s id ps ≡ total s id qs) where
  agrees_as : (id : Identity) (m b h : ℕ) → ticket_agrees ps id m b h ≡ ticket_agrees qs id m b h
  agrees_as id m b h = λ i. (m == same minted id i) && ((b == same burnt id i) && ((h == same held id i) && (m == h + b)))

  wrong_as : (k : ℕ) (ls : List Line) → first_wrong ps k ls ≡ first_wrong qs k ls
  wrong_as k [] = refl
  wrong_as k (group n rs ∷ ls) = wrong_as k ls
  wrong_as k (account b rs ∷ ls) = wrong_as k ls
  wrong_as k (contract b rs fourth ∷ ls) = wrong_as k ls
  wrong_as k (tickets id m b h ∷ ls) = λ i. if agrees_as id m b h i then wrong_as (k + 1) ls i else Some k
  wrong_as k (fees n ∷ ls) = wrong_as k ls
  wrong_as k (storage_burn n ∷ ls) = wrong_as k ls
  wrong_as k (supply n ∷ ls) = wrong_as k ls

-- ---- the verdict

-- the verdict on lines that are told with the last one first
abbrev pub verdict_from : Bool → Option ℕ → Bool → Verdict
verdict_from false wrong lined = differs_supply
verdict_from true (Some k) lined = differs_tickets k
verdict_from true None true = agrees
verdict_from true None false = differs_missing

module _ (before : List Line) where
  supply_reversed : supply_agrees (reverse before) ≡ list_all (tells_supply (all_mutez before)) before
  supply_reversed = all_reversed (tells_supply (all_mutez (reverse before))) before ∙ ap (λ n. list_all (tells_supply n) before) (mutez_reversed before)

  tickets_reversed : first_wrong (all_parts (reverse before)) 1 (reverse before) ≡ wrong_in (all_parts before) before
  tickets_reversed = wrong_as (all_parts (reverse before)) (all_parts before) (λ s id. total_reversed s id before) 1 (reverse before) ∙ wrong_reversed (all_parts before) before

  lines_reversed : list_all (has_line (reverse before)) (all_parts (reverse before)) ≡ list_all (has_line before) (all_parts before)
  lines_reversed = all_parts_reversed (has_line (reverse before)) before ∙ (λ i. list_all (λ (p : Part). any_reversed (is_of p.identity) before i) (all_parts before))

  chosen : (right : Bool) (wrong : Option ℕ) (lined : Bool) (ls : List Line) → supply_agrees ls ≡ right → first_wrong (all_parts ls) 1 ls ≡ wrong → list_all (has_line ls) (all_parts ls) ≡ lined
      → verdict ls ≡ verdict_from right wrong lined
  chosen false wrong lined ls e f g = ap (λ b. if b then unless_wrong (first_wrong (all_parts ls) 1 ls) ls else differs_supply) e
  chosen true (Some k) lined ls e f g =
      ap (λ b. if b then unless_wrong (first_wrong (all_parts ls) 1 ls) ls else differs_supply) e ∙ ap (λ o. unless_wrong o ls) f
  chosen true None true ls e f g =
      ap (λ b. if b then unless_wrong (first_wrong (all_parts ls) 1 ls) ls else differs_supply) e ∙ ap (λ o. unless_wrong o ls) f ∙ ap (λ b. if b then agrees else differs_missing) g
  chosen true None false ls e f g =
      ap (λ b. if b then unless_wrong (first_wrong (all_parts ls) 1 ls) ls else differs_supply) e ∙ ap (λ o. unless_wrong o ls) f ∙ ap (λ b. if b then agrees else differs_missing) g

  pub verdict_is : last_rank before ≡ 7 → verdict_on (ended before) ≡ verdict_from (list_all (tells_supply (all_mutez before)) before) (wrong_in (all_parts before) before) (list_all (has_line before) (all_parts before))
  verdict_is e =
      ap (λ b. verdict_on (if b then formed before else bad_form (length before + 1))) ((Decides-eqb (last_rank before) 7).1 e)
      ∙ chosen _ _ _ (reverse before) supply_reversed tickets_reversed lines_reversed

  pub unended : last_rank before ≢ 7 → ended before ≡ bad_form (length before + 1)
  unended h = by (last_rank before == 7) refl where
    by : (b : Bool) → (last_rank before == 7) ≡ b → ended before ≡ bad_form (length before + 1)
    by true e = absurd (h ((Decides-eqb (last_rank before) 7).0 e))
    by false e = ap (λ b. if b then formed before else bad_form (length before + 1)) e
