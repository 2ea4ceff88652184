-- How promises are put together from the promises of parts.
use Rattle.std.proofs.Common.{◌≡◌, ℕ, Bool, true, false, List, [], ◌∷◌, ◌++◌, refl, sym, ap, ◌∙◌, subst, arith}
use Rattle.std.specs.Prelude.{◌+ℤ◌, ◌≤ℤ◌, if◌then◌else◌}
use Rattle.std.proofs.lemmas.Int.{ints}
use Rattle.rules_text.specs.nodes.Tree.{Trees, none, more}
use Rattle.rules_data.specs.types.Kind.{Kind}
use Rattle.rules_data.specs.values.Val.{Val}
use Rattle.rules_data.specs.values.Tickets.{Identity}
use Rattle.rules_code.specs.steps.Failure.{Failure}
use Rattle.rules_code.specs.steps.Changes.{Change}
use Rattle.rules_code.specs.instructions.Same.{same_kinds}
use Rattle.rules_code.specs.typing.Typing.{Typing, goes, fails, bad, shift, in_block, join, ends, under}
use Rattle.rules_code.specs.typing.Fits.{Known, AllFit, Leads}
use Rattle.std.specs.List.{list_any}
use Rattle.std.specs.Prelude.{◌==◌}
use Rattle.rules_code.specs.evaluation.Operations.{Issued, Tally}
use Rattle.rules_code.specs.evaluation.Outcome.{Outcome, stack, failed, stuck, Go, after, only_if}
use Rattle.rules_code.specs.evaluation.Loops.{ending}
use Rattle.laws_code.specs.evaluation.Laws.{known, amount_on}
use Rattle.laws_code.specs.stacks.Sound.{Seen, AllTypes, total, Sound, After, KeepsFrom}
use Rattle.laws_code.proofs.stacks.Amounts.{on-append}
use Rattle.laws_code.proofs.stacks.Grow.{Knows, all_grow}
use Rattle.laws_data.proofs.types_lemmas.ForCallers.{same_kinds_refl, same_kinds_true}

pub keeps_failed : (e : Seen) (is : List Issued) (cs : List Change) (V : List Val) (t : Typing) (f : Failure) →
    KeepsFrom e is cs V t (failed f)
keeps_failed e is cs V (goes B) f = tt
keeps_failed e is cs V fails f = tt
keeps_failed e is cs V (bad m) f = tt

-- ---- what is kept by nothing, by one part after another, and below others

pub sound_after : {e : Seen} {is : List Issued} {cs : List Change} {V : List Val} (A B : List Kind) (W : List Val) (n : Tally) →
    Sound e is cs A V → AllTypes B → After e is cs V B W n → Sound e n.issued n.changes B W
sound_after {e = e} {cs = cs} {V = V} A B W n s ts a = record {
  types = ts;
  fit = a.fit;
  below = λ id. let h : amount_on id V ≤ℤ total e cs id = s.below id in
      let i : (amount_on id W +ℤ total e cs id) ≤ℤ (amount_on id V +ℤ total e n.changes id) = a.tickets id in
      omega (arith, ints);
  most = a.most;
  mints = a.mints;
}

-- one part after another, while some values lie aside
pub after_aside : {e : Seen} {is : List Issued} {cs : List Change} (X V W Z : List Val) (B C : List Kind) (n o : Tally) →
    After e is cs V B W n → After e n.issued n.changes (X ++ W) C Z o → After e is cs (X ++ V) C Z o
after_aside {e = e} {cs = cs} X V W Z B C n o a b = record {
  fit = b.fit;
  grows = λ i h. b.grows i (a.grows i h);
  tickets = λ id. let h : (amount_on id W +ℤ total e cs id) ≤ℤ (amount_on id V +ℤ total e n.changes id) = a.tickets id in
      let i : (amount_on id Z +ℤ total e n.changes id) ≤ℤ (amount_on id (X ++ W) +ℤ total e o.changes id) = b.tickets id in
      omega (arith, ints, on-append id X W, on-append id X V);
  most = b.most;
  mints = b.mints;
  well = λ h. b.well (a.well h);
}

-- the tally is as it was, but for its gas
pub after_still : {e : Seen} {V : List Val} (A B : List Kind) (W : List Val) (n : Tally) → Sound e n.issued n.changes A V →
    AllFit (known e.contract_at n.issued) B W →
    ((id : Identity) → amount_on id W ≤ℤ amount_on id V) → After e n.issued n.changes V B W n
after_still {e = e} {V = V} A B W n s f le = record {
  fit = f;
  grows = λ i h. h;
  tickets = λ id. let h : amount_on id W ≤ℤ amount_on id V = le id in omega (arith, ints);
  most = s.most;
  mints = s.mints;
  well = λ h. h;
}

pub fit-append : (w : Known) (A B : List Kind) (V W : List Val) → AllFit w A V → AllFit w B W → AllFit w (A ++ B) (V ++ W)
fit-append w [] B [] W h i = i
fit-append w (a ∷ A) B (x ∷ V) W h i = (h.0, fit-append w A B V W h.1 i)
fit-append w _ B _ W h i = absurd h

pub knows_grow : (e : Seen) (is js : List Issued) → ((i : ℕ) → list_any (λ j. j.number == i) is ≡ true →
    list_any (λ j. j.number == i) js ≡ true) →
    Knows (known e.contract_at is) (known e.contract_at js)
knows_grow e is js g = record { contracts = λ b a h. h; issued = g }

-- values that stand above stay
pub after_below : {e : Seen} {is : List Issued} {cs : List Change} {V : List Val} (A B : List Kind) (X W : List Val)
    (n : Tally) → AllFit (known e.contract_at is) A X →
    After e is cs V B W n → After e is cs (X ++ V) (A ++ B) (X ++ W) n
after_below {e = e} {is = is} {cs = cs} {V = V} A B X W n f a = record {
  fit = fit-append (known e.contract_at n.issued) A B X W (all_grow (known e.contract_at is) (known e.contract_at n.issued)
      (knows_grow e is n.issued a.grows) A X f) a.fit;
  grows = a.grows;
  tickets = λ id. let h : (amount_on id W +ℤ total e cs id) ≤ℤ (amount_on id V +ℤ total e n.changes id) = a.tickets id in
      omega (arith, ints, on-append id X V, on-append id X W);
  most = a.most;
  mints = a.mints;
  well = a.well;
}

-- ---- from other values, of whose tickets there were no fewer

pub after_from : {e : Seen} {is : List Issued} {cs : List Change} (V U : List Val) (B : List Kind) (W : List Val) (n : Tally) →
    ((id : Identity) → amount_on id V ≤ℤ amount_on id U) → After e is cs V B W n → After e is cs U B W n
after_from {e = e} {cs = cs} V U B W n le a = record {
  fit = a.fit;
  grows = a.grows;
  tickets = λ id. let g : amount_on id V ≤ℤ amount_on id U = le id in
      let h : (amount_on id W +ℤ total e cs id) ≤ℤ (amount_on id V +ℤ total e n.changes id) = a.tickets id in omega (arith, ints);
  most = a.most;
  mints = a.mints;
  well = a.well;
}

module _ (e : Seen) (is : List Issued) (cs : List Change) where
  pub keeps_from : (V U : List Val) (t : Typing) (o : Outcome) → ((id : Identity) → amount_on id V ≤ℤ amount_on id U) →
      KeepsFrom e is cs V t o → KeepsFrom e is cs U t o
  keeps_from V U (goes B) (stack C W n) le k = (k.0, after_from V U B W n le k.1)
  keeps_from V U (goes B) (failed f) le k = tt
  keeps_from V U (goes B) stuck le k = k
  keeps_from V U fails (stack C W n) le k = k
  keeps_from V U fails (failed f) le k = tt
  keeps_from V U fails stuck le k = k
  keeps_from V U (bad m) o le k = tt

  -- what follows a part that came to these values, while others lie aside
  pub keeps_later : (X V W : List Val) (B : List Kind) (n : Tally) (t : Typing) (o : Outcome) → After e is cs V B W n →
      KeepsFrom e n.issued n.changes (X ++ W) t o → KeepsFrom e is cs (X ++ V) t o
  keeps_later X V W B n (goes C) (stack D Z o) a k = (k.0, after_aside X V W Z B C n o a k.1)
  keeps_later X V W B n (goes C) (failed f) a k = tt
  keeps_later X V W B n (goes C) stuck a k = k
  keeps_later X V W B n fails (stack D Z o) a k = k
  keeps_later X V W B n fails (failed f) a k = tt
  keeps_later X V W B n fails stuck a k = k
  keeps_later X V W B n (bad m) o a k = tt

  pub keeps_shift : (k : ℕ) (V : List Val) (t : Typing) (o : Outcome) → KeepsFrom e is cs V t o →
      KeepsFrom e is cs V (shift k t) o
  keeps_shift k V (goes B) o h = h
  keeps_shift k V fails o h = h
  keeps_shift k V (bad m) o h = tt

  -- in a block
  pub keeps_in_block : (V : List Val) (t : Typing) (ts : Trees) (next : List Kind → Typing) (o : Outcome) (l : Go) →
      KeepsFrom e is cs V t o →
      ((B : List Kind) (W : List Val) (n : Tally) → t ≡ goes B → After e is cs V B W n →
      KeepsFrom e n.issued n.changes W (next B) (l B W n)) → KeepsFrom e is cs V (in_block t ts next) (after o l)
  keeps_in_block V (goes B) ts next (stack C W n) l k h =
      let P : List Kind → Type 0 = λ X. KeepsFrom e is cs V (next B) (l X W n) in
      subst P (sym k.0) (keeps_later [] V W B n (next B) (l B W n) k.1 (h B W n refl k.1))
  keeps_in_block V (goes B) ts next (failed f) l k h = keeps_failed e is cs V (next B) f
  keeps_in_block V (goes B) ts next stuck l k h = absurd k
  keeps_in_block V fails ts next (stack C W n) l k h = absurd k
  keeps_in_block V fails none next (failed f) l k h = tt
  keeps_in_block V fails (more t ts) next (failed f) l k h = tt
  keeps_in_block V fails ts next stuck l k h = absurd k
  keeps_in_block V (bad m) ts next o l k h = tt

  -- a body that has to end with the types C, while some values lie aside
  pub keeps_ends : (X V : List Val) (t : Typing) (C : List Kind) (u : Typing) (o : Outcome) (l : Go) → KeepsFrom e is cs V t o →
      ((W : List Val) (n : Tally) → After e is cs V C W n → KeepsFrom e n.issued n.changes (X ++ W) (ends t C u) (l C W n)) →
      KeepsFrom e is cs (X ++ V) (ends t C u) (ending o C l)
  keeps_ends X V (goes B) C u (stack D W n) l k h = by_test (same_kinds B C) refl h
    where
      by_test : (b : Bool) → same_kinds B C ≡ b → ((W : List Val) (n : Tally) → After e is cs V C W n →
          KeepsFrom e n.issued n.changes (X ++ W) (if b then u else bad 0) (l C W n)) →
          KeepsFrom e is cs (X ++ V) (if b then u else bad 0) (only_if (same_kinds D C) (l D W n))
      by_test false q h = tt
      by_test true q h =
          let same : B ≡ C = same_kinds_true B C q in
          let a : After e is cs V C W n = subst (λ X. After e is cs V X W n) same k.1 in
          let P : List Kind → Type 0 = λ D. KeepsFrom e is cs (X ++ V) u (only_if (same_kinds D C) (l D W n)) in
          let Q : Bool → Type 0 = λ b. KeepsFrom e is cs (X ++ V) u (only_if b (l C W n)) in
          subst P (sym (k.0 ∙ same)) (subst Q (sym (same_kinds_refl C)) (keeps_later X V W C n u (l C W n) a (h W n a)))
  keeps_ends X V (goes B) C u (failed f) l k h = keeps_failed e is cs (X ++ V) (if same_kinds B C then u else bad 0) f
  keeps_ends X V (goes B) C u stuck l k h = absurd k
  keeps_ends X V fails C u (stack D W n) l k h = absurd k
  keeps_ends X V fails C u (failed f) l k h = keeps_failed e is cs (X ++ V) u f
  keeps_ends X V fails C u stuck l k h = absurd k
  keeps_ends X V (bad m) C u o l k h = tt

  -- a body that leads to the types C, while some values lie aside
  pub keeps_leads : (X V : List Val) (t : Typing) (C : List Kind) (u : Typing) (o : Outcome) (l : Go) → Leads t C →
      KeepsFrom e is cs V t o →
      ((W : List Val) (n : Tally) → After e is cs V C W n → KeepsFrom e n.issued n.changes (X ++ W) u (l C W n)) →
      KeepsFrom e is cs (X ++ V) u (ending o C l)
  keeps_leads X V (goes B) C u (stack D W n) l same k h =
      let a : After e is cs V C W n = subst (λ X. After e is cs V X W n) same k.1 in
      let P : List Kind → Type 0 = λ D. KeepsFrom e is cs (X ++ V) u (only_if (same_kinds D C) (l D W n)) in
      let Q : Bool → Type 0 = λ b. KeepsFrom e is cs (X ++ V) u (only_if b (l C W n)) in
      subst P (sym (k.0 ∙ same)) (subst Q (sym (same_kinds_refl C)) (keeps_later X V W C n u (l C W n) a (h W n a)))
  keeps_leads X V (goes B) C u (failed f) l q k h = keeps_failed e is cs (X ++ V) u f
  keeps_leads X V (goes B) C u stuck l q k h = absurd k
  keeps_leads X V fails C u (stack D W n) l q k h = absurd k
  keeps_leads X V fails C u (failed f) l q k h = keeps_failed e is cs (X ++ V) u f
  keeps_leads X V fails C u stuck l q k h = absurd k
  keeps_leads X V (bad m) C u o l q k h = absurd q

  -- a body that leads to the types C, from which what follows is kept apart
  pub keeps_apart : (U V : List Val) (t : Typing) (C : List Kind) (u : Typing) (o : Outcome) (l : Go) → Leads t C →
      KeepsFrom e is cs V t o →
      ((W : List Val) (n : Tally) → After e is cs V C W n → KeepsFrom e is cs U u (l C W n)) →
      KeepsFrom e is cs U u (ending o C l)
  keeps_apart U V (goes B) C u (stack D W n) l same k h =
      let a : After e is cs V C W n = subst (λ X. After e is cs V X W n) same k.1 in
      let P : List Kind → Type 0 = λ D. KeepsFrom e is cs U u (only_if (same_kinds D C) (l D W n)) in
      let Q : Bool → Type 0 = λ b. KeepsFrom e is cs U u (only_if b (l C W n)) in
      subst P (sym (k.0 ∙ same)) (subst Q (sym (same_kinds_refl C)) (h W n a))
  keeps_apart U V (goes B) C u (failed f) l q k h = keeps_failed e is cs U u f
  keeps_apart U V (goes B) C u stuck l q k h = absurd k
  keeps_apart U V fails C u (stack D W n) l q k h = absurd k
  keeps_apart U V fails C u (failed f) l q k h = keeps_failed e is cs U u f
  keeps_apart U V fails C u stuck l q k h = absurd k
  keeps_apart U V (bad m) C u o l q k h = absurd q

  -- a loop ends where its body has those types
  pub keeps_end : (V : List Val) (t : Typing) (C B : List Kind) (W : List Val) (n : Tally) → After e is cs V B W n →
      KeepsFrom e is cs V (ends t C (goes B)) (stack B W n)
  keeps_end V (goes D) C B W n a = by_test (same_kinds D C)
    where
      by_test : (b : Bool) → KeepsFrom e is cs V (if b then goes B else bad 0) (stack B W n)
      by_test true = (refl, a)
      by_test false = tt
  keeps_end V fails C B W n a = (refl, a)
  keeps_end V (bad m) C B W n a = tt

  pub ends_shift : (k : ℕ) (V : List Val) (u : Typing) (C : List Kind) (t : Typing) (o : Outcome) →
      KeepsFrom e is cs V (ends u C t) o → KeepsFrom e is cs V (ends (shift k u) C t) o
  ends_shift k V (goes B) C t o h = h
  ends_shift k V fails C t o h = h
  ends_shift k V (bad m) C t o h = tt

  pub keeps_first : (V : List Val) (t u : Typing) (o : Outcome) → KeepsFrom e is cs V t o → KeepsFrom e is cs V (join t u) o
  keeps_first V (goes B) (goes C) o h = by_test (same_kinds B C)
    where
      by_test : (b : Bool) → KeepsFrom e is cs V (if b then goes B else bad 0) o
      by_test true = h
      by_test false = tt
  keeps_first V (goes B) fails o h = h
  keeps_first V (goes B) (bad m) o h = tt
  keeps_first V fails (goes C) (stack D W g) h = absurd h
  keeps_first V fails fails (stack D W g) h = absurd h
  keeps_first V fails (bad m) (stack D W g) h = tt
  keeps_first V fails u (failed f) h = keeps_failed e is cs V u f
  keeps_first V fails u stuck h = absurd h
  keeps_first V (bad m) u o h = tt

  pub keeps_second : (V : List Val) (t u : Typing) (o : Outcome) → KeepsFrom e is cs V u o → KeepsFrom e is cs V (join t u) o
  keeps_second V (goes B) (goes C) o h = by_test (same_kinds B C) refl
    where
      by_test : (b : Bool) → same_kinds B C ≡ b → KeepsFrom e is cs V (if b then goes B else bad 0) o
      by_test true q =
          let P : List Kind → Type 0 = λ X. KeepsFrom e is cs V (goes X) o in subst P (sym (same_kinds_true B C q)) h
      by_test false q = tt
  keeps_second V (goes B) fails (stack D W g) h = absurd h
  keeps_second V (goes B) fails (failed f) h = tt
  keeps_second V (goes B) fails stuck h = absurd h
  keeps_second V (goes B) (bad m) o h = tt
  keeps_second V fails u o h = h
  keeps_second V (bad m) u o h = tt

  -- a body that works below these values
  pub keeps_under : (A : List Kind) (X V : List Val) (t : Typing) (o : Outcome) → AllFit (known e.contract_at is) A X →
      KeepsFrom e is cs V t o →
      KeepsFrom e is cs (X ++ V) (under A t) (after o (λ B W n. stack (A ++ B) (X ++ W) n))
  keeps_under A X V (goes B) (stack C W n) f k = (ap (λ D. A ++ D) k.0, after_below A B X W n f k.1)
  keeps_under A X V (goes B) (failed g) f k = tt
  keeps_under A X V (goes B) stuck f k = absurd k
  keeps_under A X V fails (stack C W n) f k = absurd k
  keeps_under A X V fails (failed g) f k = tt
  keeps_under A X V fails stuck f k = absurd k
  keeps_under A X V (bad m) o f k = tt
