-- How counts and issued operations go on: by one part after another, by one more operation, and by a view.
use Rattle.std.proofs.Common.{◌≡◌, ◌≤◌, ◌<◌, ◌+◌, ℕ, suc, Bool, true, false, List, [], ◌∷◌, ◌++◌, Some, None, refl, sym, ap, ◌∙◌, append_assoc, append-nil, arith, le_refl}
use Rattle.std.specs.Prelude.{nat_lt, nat_le}
use Rattle.std.specs.declared.option.Option.{Option}
use Rattle.std.proofs.lemmas.Bool.{ltb-true}
use Rattle.rules_text.specs.nodes.Limits.{block_limit, operation_limit}
use Rattle.rules_data.specs.declared.gas.Kind.{Kind as Priced}
use Rattle.rules_data.specs.gas.Prices.{Listed, cost}
use Rattle.rules_data.specs.types.Kind.{Kind}
use Rattle.rules_data.specs.values.Val.{Val}
use Rattle.rules_code.specs.steps.Step.{Step, done, fails, wrong}
use Rattle.rules_code.specs.instructions.Same.{same_kinds}
use Rattle.rules_code.specs.evaluation.Surroundings.{Surroundings}
use Rattle.rules_code.specs.evaluation.Operations.{Operation, transfer, origination, event, Issued, Tally, new_contract}
use Rattle.rules_code.specs.evaluation.Outcome.{Outcome, stack, failed, stuck, Go, Run, after, unless_stuck, only_if, with_gas, charge, opened, block, finish}
use Rattle.rules_code.specs.evaluation.Branches.{paid}
use Rattle.rules_code.specs.evaluation.Loops.{ending}
use Rattle.rules_code.specs.evaluation.Issuing.{issued_where, issue, with_origination}
use Rattle.rules_code.specs.evaluation.Operating.{behind_view}
use Rattle.laws_world.specs.operations.NewOperations.{IsCounted, AreInTurn, Advances, AdvancesTo}

-- ---- operations in turn

counted_grows : (g i k : ℕ) (op : Operation) → IsCounted g i k op → i ≤ k
counted_grows g i k (transfer argument amount destination) h = h
counted_grows g i k (origination delegate amount script storage hash) h = let le = h.1 in let e = h.2 in omega (arith, le, e)
counted_grows g i k (event tag kind value) h = h

counted_earlier : (g i j k : ℕ) (op : Operation) → i ≤ j → IsCounted g j k op → IsCounted g i k op
counted_earlier g i j k (transfer argument amount destination) le h = omega (arith, le, h)
counted_earlier g i j k (origination delegate amount script storage hash) le h = let more = h.1 in
    (h.0, omega (arith, le, more), h.2, h.3)
counted_earlier g i j k (event tag kind value) le h = omega (arith, le, h)

pub turns_grow : (g n i m j : ℕ) (is : List Issued) → AreInTurn g n i m j is → (n ≤ m) × (i ≤ j)
turns_grow g n i m j [] h = h
turns_grow g n i m j (x ∷ is) h =
    let later = turns_grow g (suc x.number) h.1.0 m j is h.1.2 in
    let first = counted_grows g i h.1.0 x.operation h.1.1 in
    let number = h.0 in
    let a = later.0 in
    let b = later.1 in
    (omega (arith, a, number), omega (arith, b, first))

turns_wider : (g n i m j p q : ℕ) (is : List Issued) → m ≤ p → j ≤ q → AreInTurn g n i m j is → AreInTurn g n i p q is
turns_wider g n i m j p q [] a b h = let x = h.0 in let y = h.1 in (omega (arith, x, a), omega (arith, y, b))
turns_wider g n i m j p q (x ∷ is) a b h = (h.0, (h.1.0, h.1.1, turns_wider g (suc x.number) h.1.0 m j p q is a b h.1.2))

-- one more, behind all
turns_push : (g n i m j k : ℕ) (is : List Issued) (op : Operation) → AreInTurn g n i m j is → IsCounted g j k op →
    AreInTurn g n i (suc m) k (is ++ record { number = m; operation = op } ∷ [])
turns_push g n i m j k [] op h c = (h.0, (k, counted_earlier g i j k op h.1 c, (le_refl (suc m), le_refl k)))
turns_push g n i m j k (x ∷ is) op h c = (h.0, (h.1.0, h.1.1, turns_push g (suc x.number) h.1.0 m j k is op h.1.2 c))

-- ---- tallies

pub advances_nothing : (g : ℕ) (m : Tally) → Advances g m m
advances_nothing g m = record {
  issued = [];
  behind = sym (append-nil m.issued);
  turns = (le_refl m.operations, le_refl m.originations);
  counted = omega arith;
  limited = λ h. h;
}

-- one more operation, with the count of originations behind it
advances_push : (g : ℕ) (m n : Tally) (k : ℕ) (op : Operation) → Advances g m n → n.operations < operation_limit →
    IsCounted g n.originations k op → k ≤ n.originations + 1 →
    Advances g m
    (record n {
      operations = suc n.operations;
      originations = k;
      issued =
          n.issued ++ record { number = n.operations; operation = op } ∷ [];
    })
advances_push g m n k op a below c most = record {
  issued = a.issued ++ record { number = n.operations; operation = op } ∷ [];
  behind = ap (λ is. is ++ record { number = n.operations; operation = op } ∷ []) a.behind
      ∙ append_assoc m.issued a.issued (record { number = n.operations; operation = op } ∷ []);
  turns = turns_push g m.operations m.originations n.operations n.originations k a.issued op a.turns c;
  counted = let h = a.counted in omega (arith, h, most);
  limited = λ h. omega (arith, below);
}

-- behind a view the counts go on
pub advances_view : (g : ℕ) (s m n : Tally) → Advances g s m → Advances g m n → Advances g s (behind_view m n)
advances_view g s m n a b =
    let grow = turns_grow g m.operations m.originations n.operations n.originations b.issued b.turns in
    record {
      issued = a.issued;
      behind = a.behind;
      turns = turns_wider g s.operations s.originations m.operations m.originations n.operations n.originations a.issued grow.0
          grow.1 a.turns;
      counted = let h = a.counted in let h' = b.counted in omega (arith, h, h');
      limited = λ h. b.limited (a.limited h);
    }

-- gas and changes don't matter
pub advances_same : (g : ℕ) (s m : Tally) (gas : ℕ) → Advances g s m → Advances g s (record m { gas = gas })
advances_same g s m gas a = record {
  issued = a.issued;
  behind = a.behind;
  turns = a.turns;
  counted = a.counted;
  limited =
      a.limited;
}

-- ---- outcomes

-- what follows an outcome that went on from another tally
pub to_after_from : (g : ℕ) (s m : Tally) (o : Outcome) (k : Go) → AdvancesTo g m o →
    ((A : List Kind) (V : List Val) (n : Tally) → Advances g m n → AdvancesTo g s (k A V n)) → AdvancesTo g s (after o k)
to_after_from g s m (stack A V n) k a h = h A V n a
to_after_from g s m (failed f) k a h = tt
to_after_from g s m stuck k a h = tt

pub to_after : (g : ℕ) (s : Tally) (o : Outcome) (k : Go) → AdvancesTo g s o →
    ((A : List Kind) (V : List Val) (n : Tally) → Advances g s n → AdvancesTo g s (k A V n)) → AdvancesTo g s (after o k)
to_after g s o k a h = to_after_from g s s o k a h

pub to_only_if : (g : ℕ) (s : Tally) (b : Bool) (o : Outcome) → AdvancesTo g s o → AdvancesTo g s (only_if b o)
to_only_if g s true o h = h
to_only_if g s false o h = tt

pub to_ending_from : (g : ℕ) (s m : Tally) (o : Outcome) (B : List Kind) (k : Go) → AdvancesTo g m o →
    ((A : List Kind) (V : List Val) (n : Tally) → Advances g m n → AdvancesTo g s (k A V n)) → AdvancesTo g s (ending o B k)
to_ending_from g s m o B k a h = to_after_from g s m o _ a (λ C W n b. to_only_if g s (same_kinds C B) (k C W n) (h C W n b))

pub to_ending : (g : ℕ) (s : Tally) (o : Outcome) (B : List Kind) (k : Go) → AdvancesTo g s o →
    ((A : List Kind) (V : List Val) (n : Tally) → Advances g s n → AdvancesTo g s (k A V n)) → AdvancesTo g s (ending o B k)
to_ending g s o B k a h = to_ending_from g s s o B k a h

pub to_unless : {A : Type 0} (g : ℕ) (s : Tally) (o : Option A) (k : A → Outcome) → ((x : A) → AdvancesTo g s (k x)) →
    AdvancesTo g s (unless_stuck o k)
to_unless g s None k h = tt
to_unless g s (Some x) k h = h x

module _ (g : ℕ) (s m : Tally) (a : Advances g s m) where
  to_gas : (b : Bool) (c : ℕ) (k : Tally → Outcome) → ((n : Tally) → Advances g s n → AdvancesTo g s (k n)) →
      AdvancesTo g s (with_gas b c m k)
  to_gas true c k h = h _ (advances_same g s m _ a)
  to_gas false c k h = tt

  pub to_charge : (prices : Listed) (kind : Priced) (weight : ℕ) (k : Tally → Outcome) →
      ((n : Tally) → Advances g s n → AdvancesTo g s (k n)) → AdvancesTo g s (charge prices kind weight m k)
  to_charge prices kind weight k h = to_gas (nat_le (cost prices kind weight) m.gas) (cost prices kind weight) k h

  pub to_paid : (e : Surroundings) (kind : Priced) (k : Tally → Outcome) →
      ((n : Tally) → Advances g s n → AdvancesTo g s (k n)) → AdvancesTo g s (paid e kind m k)
  to_paid e kind k h = to_charge e.prices kind 0 k h

  pub to_finish : (x : Step) (B : List Kind) → AdvancesTo g s (finish x B m)
  to_finish (done V changes) B = record {
    issued = a.issued;
    behind = a.behind;
    turns = a.turns;
    counted = a.counted;
    limited =
        a.limited;
  }
  to_finish (fails f) B = tt
  to_finish wrong B = tt

  to_issued : (b : Bool) (op : Operation) (k : Val → Tally → Outcome) → nat_lt m.operations operation_limit ≡ b →
      IsCounted g m.originations m.originations op →
      ((x : Val) (n : Tally) → Advances g s n → AdvancesTo g s (k x n)) → AdvancesTo g s (issued_where b op m k)
  to_issued true op k e c h = h _ _ (advances_push g s m m.originations op a (ltb-true m.operations operation_limit e) c
      (omega arith))
  to_issued false op k e c h = tt

  -- an operation that is no origination
  pub to_issue : (op : Operation) (k : Val → Tally → Outcome) → IsCounted g m.originations m.originations op →
      ((x : Val) (n : Tally) → Advances g s n → AdvancesTo g s (k x n)) → AdvancesTo g s (issue op m k)
  to_issue op k c h = to_issued (nat_lt m.operations operation_limit) op k refl c h

  to_created : (b : Bool) (delegate : Option (List ℕ)) (amount : ℕ) (script : Rattle.rules_text.specs.nodes.Tree.Tree)
      (storage : Val) (k : Val → Tally → Outcome) → nat_lt m.operations operation_limit ≡ b →
      ((x : Val) (n : Tally) → Advances g s n → AdvancesTo g s (k x n)) →
      AdvancesTo g s (issued_where b (origination delegate amount script storage (new_contract g m.originations))
      (with_origination m) k)
  to_created true delegate amount script storage k e h =
      h _ _ (advances_push g s m (suc m.originations) (origination delegate amount script storage
      (new_contract g m.originations)) a (ltb-true m.operations operation_limit e)
      (m.originations, le_refl m.originations, refl, refl) (omega arith))
  to_created false delegate amount script storage k e h = tt

  -- an origination
  pub to_create : (delegate : Option (List ℕ)) (amount : ℕ) (script : Rattle.rules_text.specs.nodes.Tree.Tree) (storage : Val)
      (k : Val → Tally → Outcome) → ((x : Val) (n : Tally) → Advances g s n → AdvancesTo g s (k x n)) →
      AdvancesTo g s (issue (origination delegate amount script storage (new_contract g m.originations)) (with_origination m) k)
  to_create delegate amount script storage k h = to_created (nat_lt m.operations operation_limit) delegate amount script
      storage k refl h

-- ---- runs

abbrev pub AdvancingRun : Run → Type 0
AdvancingRun r = (e : Surroundings) (d : ℕ) (A : List Kind) (V : List Val) (s m : Tally) → Advances e.group s m →
    AdvancesTo e.group s (r e d A V m)

to_opened : (b : Bool) (r : Run) → AdvancingRun r → AdvancingRun (opened b r)
to_opened true r h e d A V s m a = h e (suc d) A V s m a
to_opened false r h e d A V s m a = tt

pub to_block : (r : Run) → AdvancingRun r → AdvancingRun (block r)
to_block r h e d A V s m a = to_opened (nat_lt d block_limit) r h e d A V s m a
