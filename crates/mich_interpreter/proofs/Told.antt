-- What a ledger lists after an instruction, and what was minted before the run.
use Rattle.std.proofs.Common.{◌≡◌, ◌-◌, ℕ, List, ◌++◌, map, append_assoc, sym, ap, ◌∙◌, subst, arith}
use Rattle.std.specs.Prelude.{ℤ, ◌+ℤ◌, ◌-ℤ◌}
use Rattle.std.proofs.lemmas.Int.{ints}
use Rattle.rules_data.specs.declared.gas.Kind.{Kind as Priced}
use Rattle.rules_data.specs.gas.Prices.{cost}
use Rattle.rules_data.specs.types.Kind.{Kind}
use Rattle.rules_data.specs.values.Tickets.{Identity}
use Rattle.rules_code.specs.steps.Changes.{Change, minted_in, burnt_in}
use Rattle.rules_code.specs.evaluation.Outcome.{Outcome, with_changes}
use Rattle.laws_tickets.proofs.totals.ForCallers.{minted_append, burnt_append}
use Rattle.mich_gas.specs.declared.costs.Costs.{Costs}
use Rattle.mich_gas.specs.View.{listed}
use Rattle.mich_term.specs.declared.value.Value.{Value}
use Rattle.mich_tickets.specs.Books.{State as Ledger}
use Rattle.mich_tickets.specs.Effects.{Tells, change}
use Rattle.mich_tickets.specs.Sums.{minted_of, burnt_of}
use Rattle.mich_frames.specs.Around.{less}
use Rattle.mich_frames.specs.Frames.{Frame}
use Rattle.mich_frames.specs.Rows.{minted_at}
use Rattle.mich_frames.specs.Stands.{StandsAt}
use Rattle.laws_code.specs.evaluation.Laws.{amount_issued}
use Rattle.mich_interpreter.specs.View.{Before, Beyond, tops, all_changes, minted_before, burnt_before, around, tally}
use Rattle.mich_state.specs.declared.state.State.{State}

back : (a b : ℤ) → (a -ℤ b) +ℤ b ≡ a
back a b = omega (arith, ints)

-- what was minted before the run and in it is what the books tell
pub minted_is : (x : Beyond) (costs : Costs) (m : State) (kind : Priced) (w : ℕ) → minted_at (around x costs m) (less (around x costs m) kind w (tally x m)) ≡ minted_of m.ledger.books.present
minted_is x costs m kind w = λ i id. back (minted_of m.ledger.books.present id) (minted_in id (all_changes x.before m.ledger)) i

more_back : (a b c : ℤ) → ((a -ℤ (b +ℤ c)) +ℤ c) +ℤ b ≡ a
more_back a b c = omega (arith, ints)

-- and what was burnt by now, likewise; a view begins with nothing burnt
pub burnt_is : (b : Before) (m : State) (id : Identity) → burnt_of m.ledger.books.present id ≡ (burnt_before b m.ledger id +ℤ burnt_in id (all_changes b m.ledger)) +ℤ amount_issued id b.issued
burnt_is b m id = sym (more_back (burnt_of m.ledger.books.present id) (amount_issued id b.issued) (burnt_in id (all_changes b m.ledger)))

pub minted_by_now : (b : Before) (m : State) (id : Identity) → minted_of m.ledger.books.present id ≡ minted_before b m.ledger id +ℤ minted_in id (all_changes b m.ledger)
minted_by_now b m id = sym (back (minted_of m.ledger.books.present id) (minted_in id (all_changes b m.ledger)))

less_more : (a b c d e : ℤ) → a ≡ b +ℤ c → d ≡ e +ℤ c → a -ℤ d ≡ b -ℤ e
less_more a b c d e p q = omega (arith, ints)

less_more_than : (a b c d e f : ℤ) → a ≡ b +ℤ c → d ≡ e +ℤ c → a -ℤ (f +ℤ d) ≡ b -ℤ (f +ℤ e)
less_more_than a b c d e f p q = omega (arith, ints)

-- what was minted before the run stays
module _ (before : Before) (changes : List Change) (old new : Ledger) (t : Tells changes old new) where
  pub told_all : all_changes before new ≡ all_changes before old ++ changes
  told_all = ap (λ cs. before.changes ++ cs) t.told ∙ sym (append_assoc before.changes (map change old.changes) changes)

  same_before : (id : Identity) → minted_before before new id ≡ minted_before before old id
  same_before id =
      less_more (minted_of new.books.present id) (minted_of old.books.present id) (minted_in id changes) (minted_in id (all_changes before new)) (minted_in id (all_changes before old))
      (t.books.minted id) (ap (minted_in id) told_all ∙ minted_append id (all_changes before old) changes)

  pub before_stays : minted_before before new ≡ minted_before before old
  before_stays = λ i id. same_before id i

  same_burnt : (id : Identity) → burnt_before before new id ≡ burnt_before before old id
  same_burnt id =
      less_more_than (burnt_of new.books.present id) (burnt_of old.books.present id) (burnt_in id changes) (burnt_in id (all_changes before new)) (burnt_in id (all_changes before old)) (amount_issued id before.issued)
      (t.books.burnt id) (ap (burnt_in id) told_all ∙ burnt_append id (all_changes before old) changes)

  pub burnt_stays : burnt_before before new ≡ burnt_before before old
  burnt_stays = λ i id. same_burnt id i

module _ (x : Beyond) (costs : Costs) (old : State) (stack : List Value) (meter : ℕ) (ledger : Ledger) where
  abbrev pub later : State
  later = record old { stack = stack; meter = meter; ledger = ledger }

  module _ (fs : List Frame) (d : ℕ) (Z : List Kind) (o : Outcome) (kind : Priced) (w : ℕ) (changes : List Change) where
    abbrev P : (Identity → ℤ) → (Identity → ℤ) → ℕ → List Change → Type 0
    P f b g cs = StandsAt fs (record (around x costs old) { minted = f; burnt = b }) (tops x.sight stack) (record (tally x old) { gas = g; changes = cs }) d Z o

    -- after an instruction that was paid for, and that told these changes
    pub stands_told : Tells changes old.ledger ledger → meter ≡ old.meter - cost (listed costs) kind w →
        StandsAt fs (around x costs old) (tops x.sight stack) (with_changes (less (around x costs old) kind w (tally x old)) changes) d Z o →
        StandsAt fs (around x costs later) (tops x.sight later.stack) (tally x later) d Z o
    stands_told t paid h =
        let before = x.before in
        let f = minted_before before old.ledger in
        let b = burnt_before before old.ledger in
        let gas : ℕ = old.meter - cost (listed costs) kind w in
        let all = all_changes before ledger in
        let one : P f b gas (all_changes before old.ledger ++ changes) = h in
        let two : P f b gas all = subst (λ cs. P f b gas cs) (sym (told_all before changes old.ledger ledger t)) one in
        let three : P f b meter all = subst (λ g. P f b g all) (sym paid) two in
        let four : P (minted_before before ledger) b meter all = subst (λ y. P y b meter all) (sym (before_stays before changes old.ledger ledger t)) three in
        subst (λ y. P (minted_before before ledger) y meter all) (sym (burnt_stays before changes old.ledger ledger t)) four
