-- What code issues is new, by what it is made of.
use Rattle.std.proofs.Common.{◌≡◌, ℕ, suc, ◌≤◌, Bool, true, false, List, [], ◌∷◌, ◌++◌, Option, Some, None, refl, ap, ◌∙◌, arith}
use Rattle.std.specs.Prelude.{◌-◌, nat_lt, nat_le}
use Rattle.std.proofs.lemmas.List.{append_assoc}
use Rattle.rules_text.specs.nodes.Limits.{block_limit}
use Rattle.rules_data.specs.declared.gas.Kind.{Kind as Priced}
use Rattle.rules_data.specs.gas.Prices.{Listed, cost}
use Rattle.rules_data.specs.types.Kind.{Kind}
use Rattle.rules_code.specs.instructions.Same.{same_kinds}
use Rattle.rules_data.specs.values.Val.{Val}
use Rattle.rules_code.specs.steps.Step.{Step, done, fails, wrong}
use Rattle.rules_code.specs.evaluation.Surroundings.{Surroundings}
use Rattle.rules_code.specs.evaluation.Operations.{Operation, transfer, origination, event, Issued, Tally}
use Rattle.rules_code.specs.evaluation.Outcome.{Outcome, stack, failed, stuck, Go, Run, after, unless_stuck, only_if, with_gas, charge, opened, block, with_changes, finish}
use Rattle.rules_code.specs.evaluation.Branches.{paid}
use Rattle.rules_code.specs.evaluation.Loops.{ending}
use Rattle.laws_code.specs.evaluation.Origins.{IsNew, AreNew, Originates}

-- ---- lists of operations

-- what is asked of an operation, with less asked of those behind it
new_with : (o : Operation) (group low low' : ℕ) (P Q : ℕ → Type 0) → low ≤ low' → (P low' → Q low) → ((i : ℕ) → P i → Q i) → IsNew o group low' P → IsNew o group low Q
new_with (transfer argument amount destination) group low low' P Q le f g h = f h
new_with (event tag kind value) group low low' P Q le f g h = f h
new_with (origination delegate amount script storage hash) group low low' P Q le f g h = (h.0, omega arith, h.2, g (suc h.0) h.3)

lower : (group low low' high : ℕ) (is : List Issued) → low ≤ low' → AreNew group low' high is → AreNew group low high is
lower group low low' high [] le h = omega arith
lower group low low' high (i ∷ is) le h = new_with i.operation group low low' _ _ le (λ u. lower group low low' high is le u) (λ n u. u) h

new_append : (group low mid high : ℕ) (is js : List Issued) → AreNew group low mid is → AreNew group mid high js → AreNew group low high (is ++ js)
new_append group low mid high [] js h g = lower group low mid high js h g
new_append group low mid high (i ∷ is) js h g =
    new_with i.operation group low low _ _ (omega arith) (λ u. new_append group low mid high is js u g) (λ n u. new_append group n mid high is js u g) h

-- no number is lost
above : (o : Operation) (group low high : ℕ) (P : ℕ → Type 0) → ((i : ℕ) → P i → i ≤ high) → IsNew o group low P → low ≤ high
above (transfer argument amount destination) group low high P f h = f low h
above (event tag kind value) group low high P f h = f low h
above (origination delegate amount script storage hash) group low high P f h = let p = f (suc h.0) h.3 in let q = h.1 in omega arith

pub low_high : (group low high : ℕ) (is : List Issued) → AreNew group low high is → low ≤ high
low_high group low high [] h = h
low_high group low high (i ∷ is) h = above i.operation group low high _ (λ n u. low_high group n high is u) h

-- ---- outcomes

no_more : (is : List Issued) → is ≡ is ++ []
no_more [] = refl
no_more (i ∷ is) = ap (λ js. i ∷ js) (no_more is)

-- nothing is issued
pub new_here : (group : ℕ) (m n : Tally) (A : List Kind) (V : List Val) → n.issued ≡ m.issued → m.originations ≤ n.originations → Originates group m (stack A V n)
new_here group m n A V same le = ([], same ∙ no_more m.issued, le)

pub new_trans : (group : ℕ) (m n : Tally) (A : List Kind) (V : List Val) (o : Outcome) → Originates group m (stack A V n) → Originates group n o → Originates group m o
new_trans group m n A V (stack C W i) h g =
    (h.0 ++ g.0, g.1 ∙ ap (λ is. is ++ g.0) h.1 ∙ append_assoc m.issued h.0 g.0, new_append group m.originations n.originations i.originations h.0 g.0 h.2 g.2)
new_trans group m n A V (failed f) h g = tt
new_trans group m n A V stuck h g = tt

abbrev pub NewGo : ℕ → Go → Type 0
NewGo group go = (A : List Kind) (V : List Val) (m : Tally) → Originates group m (go A V m)

abbrev pub NewRun : Run → Type 0
NewRun r = (e : Surroundings) (d : ℕ) (A : List Kind) (V : List Val) (m : Tally) → Originates e.group m (r e d A V m)

pub new_after : (group : ℕ) (m : Tally) (o : Outcome) (go : Go) → Originates group m o → NewGo group go → Originates group m (after o go)
new_after group m (stack A V n) go h g = new_trans group m n A V (go A V n) h (g A V n)
new_after group m (failed f) go h g = tt
new_after group m stuck go h g = tt

pub new_only_if : (group : ℕ) (m : Tally) (b : Bool) (o : Outcome) → Originates group m o → Originates group m (only_if b o)
new_only_if group m true o h = h
new_only_if group m false o h = tt

pub new_ending : (group : ℕ) (m : Tally) (o : Outcome) (B : List Kind) (go : Go) → Originates group m o → NewGo group go → Originates group m (ending o B go)
new_ending group m o B go h g = new_after group m o _ h (λ C W n. new_only_if group n (same_kinds C B) _ (g C W n))

pub new_unless : {X : Type 0} (group : ℕ) (m : Tally) (x : Option X) (go : X → Outcome) → ((y : X) → Originates group m (go y)) → Originates group m (unless_stuck x go)
new_unless group m None go h = tt
new_unless group m (Some y) go h = h y

new_gas : (group : ℕ) (m : Tally) (g : ℕ) (o : Outcome) → Originates group (record m { gas = g }) o → Originates group m o
new_gas group m g (stack A V n) h = h
new_gas group m g (failed f) h = tt
new_gas group m g stuck h = tt

new_with_gas : (b : Bool) (group c : ℕ) (m : Tally) (go : Tally → Outcome) → ((n : Tally) → Originates group n (go n)) → Originates group m (with_gas b c m go)
new_with_gas true group c m go h = new_gas group m (m.gas - c) (go (record m { gas = m.gas - c })) (h (record m { gas = m.gas - c }))
new_with_gas false group c m go h = tt

pub new_charge : (group : ℕ) (prices : Listed) (kind : Priced) (w : ℕ) (m : Tally) (go : Tally → Outcome) → ((n : Tally) → Originates group n (go n)) → Originates group m (charge prices kind w m go)
new_charge group prices kind w m go h = new_with_gas (nat_le (cost prices kind w) m.gas) group (cost prices kind w) m go h

pub new_paid : (e : Surroundings) (kind : Priced) (m : Tally) (go : Tally → Outcome) → ((n : Tally) → Originates e.group n (go n)) → Originates e.group m (paid e kind m go)
new_paid e kind m go h = new_charge e.group e.prices kind 0 m go h

new_opened : (b : Bool) (r : Run) → NewRun r → NewRun (opened b r)
new_opened true r h e d A V m = h e (suc d) A V m
new_opened false r h e d A V m = tt

pub new_block : (r : Run) → NewRun r → NewRun (block r)
new_block r h e d A V m = new_opened (nat_lt d block_limit) r h e d A V m

pub new_finish : (group : ℕ) (s : Step) (B : List Kind) (m : Tally) → Originates group m (finish s B m)
new_finish group (done V changes) B m = new_here group m (with_changes m changes) B V refl (omega arith)
new_finish group (fails f) B m = tt
new_finish group wrong B m = tt
