-- What a step of an instruction without bodies promises.
use Rattle.std.proofs.Common.{◌≡◌, ℕ, Bool, true, List, [], ◌∷◌, ◌++◌, Option, Some, None, refl, ap, arith, pos}
use Rattle.std.specs.Prelude.{◌+ℤ◌, ◌≤ℤ◌, ℤ}
use Rattle.std.proofs.lemmas.Int.{ints}
use Rattle.rules_data.specs.types.Kind.{Kind}
use Rattle.rules_data.specs.types.Kind as k
use Rattle.rules_data.specs.declared.types.Simple.{Simple}
use Rattle.rules_data.specs.declared.types.Simple.TheVariants as s
use Rattle.rules_data.specs.values.Val.{Val}
use Rattle.rules_data.specs.values.Val as v
use Rattle.rules_data.specs.values.Forms.{has_simple_form}
use Rattle.rules_data.specs.values.Tickets.{Identity, Held}
use Rattle.rules_code.specs.instructions.Change.{Change, after}
use Rattle.rules_code.specs.steps.Changes as c
use Rattle.rules_code.specs.steps.Changes.{burns, minted_in, amount_of}
use Rattle.rules_code.specs.steps.Step.{Step, done, fails, wrong}
use Rattle.rules_code.specs.typing.Fits.{Known, Fits, AllFit}
use Rattle.rules_code.specs.evaluation.Operations.{Tally}
use Rattle.rules_code.specs.evaluation.Outcome.{finish}
use Rattle.rules_code.specs.typing.Typing.{goes}
use Rattle.laws_code.specs.evaluation.Laws.{known, most_tickets, amount_on}
use Rattle.laws_code.specs.stacks.Sound.{Seen, total, Sound, KeepsFrom}
use Rattle.std.specs.List.{All}
use Rattle.std.proofs.lemmas.List.Elements.{All-nil, All-cons, All-head, All-tail, All-append}
use Rattle.rules_world.specs.world.Forms.{IsTicket, IsChange}

-- nothing is minted
abbrev pub Mintless : List c.Change → Type 0
Mintless cs = (id : Identity) (before : List c.Change) → minted_in id (before ++ cs) ≡ minted_in id before

pub mintless_none : Mintless []
mintless_none id [] = refl
mintless_none id (c.minted t ∷ cs) = ap (λ z. amount_of id t +ℤ z) (mintless_none id cs)
mintless_none id (c.burnt t ∷ cs) = mintless_none id cs

burns_none : (ts : List Held) (id : Identity) → minted_in id (burns ts) ≡ pos 0
burns_none [] id = refl
burns_none (t ∷ ts) id = burns_none ts id

pub mintless_burns : (ts : List Held) → Mintless (burns ts)
mintless_burns ts id [] = burns_none ts id
mintless_burns ts id (c.minted t ∷ cs) = ap (λ z. amount_of id t +ℤ z) (mintless_burns ts id cs)
mintless_burns ts id (c.burnt t ∷ cs) = mintless_burns ts id cs

-- nothing is minted, and what is burnt has its form
abbrev pub Quiet : List c.Change → Type 0
Quiet cs = Mintless cs × All IsChange cs

pub quiet_none : Quiet []
quiet_none = (mintless_none, All-nil IsChange)

burns_forms : (ts : List Held) → All IsTicket ts → All IsChange (burns ts)
burns_forms [] h = All-nil IsChange
burns_forms (t ∷ ts) h =
    All-cons IsChange (c.burnt t) (burns ts) (All-head IsTicket t ts h) (burns_forms ts (All-tail IsTicket t ts h))

pub quiet_burns : (ts : List Held) → All IsTicket ts → Quiet (burns ts)
quiet_burns ts h = (mintless_burns ts, burns_forms ts h)

-- values that fit, with no more tickets, or a failure
abbrev pub RowStep : Known → List Val → List Kind → Step → Type 0
RowStep w V B (done W cs) = AllFit w B W × ((id : Identity) → amount_on id W ≤ℤ amount_on id V) × Quiet cs
RowStep w V B (fails f) = Unit {0}
RowStep w V B wrong = ⊥

-- the same, where the types are those of a change
abbrev pub StepFits : Known → List Val → Option Change → Step → Type 0
StepFits w V None s = Unit {0}
StepFits w V (Some c) s = RowStep w V (after c) s

pub finish_keeps : (e : Seen) (m : Tally) (A B : List Kind) (V : List Val) (s : Step) → Sound e m.issued m.changes A V →
    RowStep (known e.contract_at m.issued) V B s →
    KeepsFrom e m.issued m.changes V (goes B) (finish s B m)
finish_keeps e m A B V (done W cs) so h = (
  refl,
  record {
    fit = h.0;
    grows = λ i j. j;
    tickets = λ id. let p : amount_on id W ≤ℤ amount_on id V = h.1 id in
        let q : minted_in id (m.changes ++ cs) ≡ minted_in id m.changes = h.2.0 id m.changes in omega (arith, ints);
    mints = λ id. let q : minted_in id (m.changes ++ cs) ≡ minted_in id m.changes = h.2.0 id m.changes in
        let p : pos 0 ≤ℤ minted_in id m.changes = so.mints id in omega (arith, ints);
    most = λ id. let q : minted_in id (m.changes ++ cs) ≡ minted_in id m.changes = h.2.0 id m.changes in
        let p : total e m.changes id ≤ℤ most_tickets = so.most id in omega (arith, ints);
    well = λ g. (g.0, All-append IsChange m.changes cs g.1 h.2.1);
  },
)
finish_keeps e m A B V (fails f) so h = tt
finish_keeps e m A B V wrong so h = absurd h

-- ---- values by their types

pub on_first : (w : Known) (P : List Val → Type 0) (a : Kind) (A : List Kind) (V : List Val) → AllFit w (a ∷ A) V →
    ((x : Val) (W : List Val) → Fits w a x → AllFit w A W → P (x ∷ W)) → P V
on_first w P a A (x ∷ V) h f = f x V h.0 h.1
on_first w P a A [] h f = absurd h

-- types whose values are numbers
abbrev pub IsNumeric : Simple → Type 0
IsNumeric s.Int = Unit {0}
IsNumeric s.Nat = Unit {0}
IsNumeric s.Timestamp = Unit {0}
IsNumeric s.Mutez = Unit {0}
IsNumeric u = ⊥

pub on_numeric : (P : Val → Type 0) (u : Simple) (x : Val) → IsNumeric u → has_simple_form u x ≡ true →
    ((n : ℤ) → has_simple_form u (v.number n) ≡ true → P (v.number n)) → P x
on_numeric P u (v.number n) i h f = f n h
on_numeric P s.Int x i h f = absurd cc
on_numeric P s.Nat x i h f = absurd cc
on_numeric P s.Timestamp x i h f = absurd cc
on_numeric P s.Mutez x i h f = absurd cc
on_numeric P u x i h f = absurd i

pub on_one_number : (w : Known) (P : List Val → Type 0) (u : Simple) (A : List Kind) (V : List Val) → IsNumeric u →
    AllFit w (k.simple u ∷ A) V →
    ((n : ℤ) (W : List Val) → has_simple_form u (v.number n) ≡ true → AllFit w A W → P (v.number n ∷ W)) → P V
on_one_number w P u A V i h f = on_first w P (k.simple u) A V h
    (λ x W g j. on_numeric (λ y. P (y ∷ W)) u x i g (λ n q. f n W q j))

pub on_two_numbers : (w : Known) (P : List Val → Type 0) (u z : Simple) (A : List Kind) (V : List Val) → IsNumeric u →
    IsNumeric z → AllFit w (k.simple u ∷ k.simple z ∷ A) V →
    ((m n : ℤ) (W : List Val) → has_simple_form u (v.number m) ≡ true → has_simple_form z (v.number n) ≡ true → AllFit w A W →
    P (v.number m ∷ v.number n ∷ W)) → P V
on_two_numbers w P u z A V i j h f =
    on_one_number w P u (k.simple z ∷ A) V i h (λ m W p q. on_one_number w (λ X. P (v.number m ∷ X)) z A W j q
    (λ n X r t. f m n X p r t))

pub on_truth : (w : Known) (P : List Val → Type 0) (A : List Kind) (V : List Val) → AllFit w (k.simple s.Bool ∷ A) V →
    ((b : Bool) (W : List Val) → AllFit w A W → P (v.truth b ∷ W)) → P V
on_truth w P A V h f = on_first w P (k.simple s.Bool) A V h (λ x W g j. by x W g j)
  where
    by : (x : Val) (W : List Val) → has_simple_form s.Bool x ≡ true → AllFit w A W → P (x ∷ W)
    by (v.truth b) W g j = f b W j
    by x W g j = absurd cc

pub on_text : (w : Known) (P : List Val → Type 0) (A : List Kind) (V : List Val) → AllFit w (k.simple s.String ∷ A) V →
    ((b : List ℕ) (W : List Val) → has_simple_form s.String (v.text b) ≡ true → AllFit w A W → P (v.text b ∷ W)) → P V
on_text w P A V h f = on_first w P (k.simple s.String) A V h (λ x W g j. by x W g j)
  where
    by : (x : Val) (W : List Val) → has_simple_form s.String x ≡ true → AllFit w A W → P (x ∷ W)
    by (v.text b) W g j = f b W g j
    by x W g j = absurd cc

-- types whose values are bytes
abbrev pub IsBytes : Simple → Type 0
IsBytes s.Bytes = Unit {0}
IsBytes s.KeyHash = Unit {0}
IsBytes s.Key = Unit {0}
IsBytes s.Signature = Unit {0}
IsBytes s.ChainId = Unit {0}
IsBytes s.Address = Unit {0}
IsBytes u = ⊥

pub on_bytes : (w : Known) (P : List Val → Type 0) (u : Simple) (A : List Kind) (V : List Val) → IsBytes u →
    AllFit w (k.simple u ∷ A) V →
    ((b : List ℕ) (W : List Val) → has_simple_form u (v.bytes b) ≡ true → AllFit w A W → P (v.bytes b ∷ W)) → P V
on_bytes w P u A V i h f = on_first w P (k.simple u) A V h (λ x W g j. by u x W i g (λ b q. f b W q j))
  where
    by : (u : Simple) (x : Val) (W : List Val) → IsBytes u → has_simple_form u x ≡ true →
        ((b : List ℕ) → has_simple_form u (v.bytes b) ≡ true → P (v.bytes b ∷ W)) → P (x ∷ W)
    by u (v.bytes b) W i g f = f b g
    by s.Bytes x W i g f = absurd cc
    by s.KeyHash x W i g f = absurd cc
    by s.Key x W i g f = absurd cc
    by s.Signature x W i g f = absurd cc
    by s.ChainId x W i g f = absurd cc
    by s.Address x W i g f = absurd cc
    by u x W i g f = absurd i
