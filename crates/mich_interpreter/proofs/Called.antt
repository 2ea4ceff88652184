-- Callers of views: one more, and one less.
use Rattle.std.proofs.Common.{◌≡◌, ◌<◌, ◌≤◌, ◌+◌, Bool, true, false, cond, List, [], ◌∷◌, ◌++◌, map, take, drop, Some, None, refl, sym, ap, ◌∙◌, subst}
use Rattle.std.specs.Prelude.{ℤ, pos, ◌+ℤ◌, ◌-ℤ◌, option_map}
use Rattle.std.specs.declared.option.Option.{Option}
use Rattle.std.specs.Map.{lookup}
use Rattle.std.proofs.lemmas.List.{append-nil}
use Rattle.rules_text.specs.nodes.Limits.{block_limit}
use Rattle.rules_data.specs.types.Kind.{Kind}
use Rattle.rules_data.specs.values.Tickets.{Identity}
use Rattle.rules_data.specs.values.Val.{some}
use Rattle.rules_code.specs.steps.Changes.{burnt_in, minted_in}
use Rattle.rules_code.specs.steps.Failure as f
use Rattle.rules_code.specs.evaluation.Operations.{Tally}
use Rattle.rules_code.specs.evaluation.Outcome.{Outcome, failed}
use Rattle.laws_code.specs.evaluation.Laws.{amount_issued}
use Rattle.mich_frames.specs.Around.{Around}
use Rattle.mich_frames.specs.Frames as fr
use Rattle.mich_frames.specs.Shapes.{HasTop}
use Rattle.mich_frames.specs.Stands.{StandsAt}
use Rattle.mich_frames.proofs.ForCallers.{enters, too_deep, view_ends, view_top}
use Rattle.mich_gas.specs.declared.costs.Costs.{Costs}
use Rattle.mich_gas.specs.View.{listed}
use Rattle.mich_instr.specs.View.{codes}
use Rattle.mich_stack.specs.Views.{Sight, seen}
use Rattle.mich_step.specs.Views.{environment}
use Rattle.mich_term.specs.declared.ticket.TicketId.{TicketId}
use Rattle.mich_term.specs.declared.value.Value.{Value}
use Rattle.mich_tickets.specs.Books.{Books, fresh, State as Ledger}
use Rattle.mich_tickets.specs.Lines.{is_of}
use Rattle.mich_tickets.specs.Sums.{burnt_of, minted_of, totals_on}
use Rattle.mich_tickets.specs.Viewed.{viewed_books, viewed_entry, viewed_line}
use Rattle.mich_tickets.specs.declared.line.Line.{Line}
use Rattle.mich_world.specs.World.{World}
use Rattle.mich_interpreter.specs.Callers.{InCall, IsBack, MintedAt, back_to, called, caller_of, entered, frames_of, home, in_call, inside, within}
use Rattle.mich_interpreter.specs.Ends.{KeepsPast, KeepsState, in_view}
use Rattle.mich_interpreter.specs.Runs.{HasActedIn}
use Rattle.mich_interpreter.specs.Sees.{Sees}
use Rattle.mich_interpreter.specs.View.{Before, Beyond, all_changes, all_issued, around, burnt_before, frames, minted_before, tally, tops}
use Rattle.mich_interpreter.specs.declared.act.Act.TheVariants as a
use Rattle.mich_interpreter.specs.declared.act.View.{View}
use Rattle.mich_interpreter.specs.declared.callers.Caller.{Caller}
use Rattle.mich_interpreter.specs.declared.machine.Machine.{Machine}
use Rattle.mich_state.specs.declared.state.State.{State}
use Rattle.mich_interpreter.proofs.Keeping.{keeps_on, past_on}
use Rattle.mich_interpreter.proofs.Told.{before_stays}

-- in a view the world is seen as before it
pub sees_in : (v : World) (x : Beyond) (cs : List Caller) → Sees v x → Sees v (in_call x cs)
sees_in v x cs h = record { sight = h.sight; contracts = h.contracts; typed = h.typed; stored = h.stored }

-- ---- one more caller

pub called_more : (big : Sight) (b : Before) (cs : List Caller) (c : Caller) (gs : List fr.Frame) → called big b (cs ++ c ∷ []) gs ≡ frames_of big (inside big b cs) c (called big b cs gs)
called_more big b [] c gs = refl
called_more big b (d ∷ cs) c gs = called_more big (within big b d) cs c (frames_of big b d gs)

pub inside_more : (big : Sight) (b : Before) (cs : List Caller) (c : Caller) → inside big b (cs ++ c ∷ []) ≡ within big (inside big b cs) c
inside_more big b [] c = refl
inside_more big b (d ∷ cs) c = inside_more big (within big b d) cs c

-- ---- what was minted before the run

pub minted_now : (f : Identity → ℤ) (big : Sight) (b : Before) (cs : List Caller) (l : Ledger) → MintedAt f big b cs l → minted_before (inside big b cs) l ≡ f
minted_now f big b [] l h = h
minted_now f big b (c ∷ cs) l h = minted_now f big (within big b c) cs l h.1

minted_to : (f : Identity → ℤ) (big : Sight) (b : Before) (cs : List Caller) (l k : Ledger) → ((b : Before) → minted_before b k ≡ minted_before b l) → MintedAt f big b cs l → MintedAt f big b cs k
minted_to f big b [] l k e h = e b ∙ h
minted_to f big b (c ∷ cs) l k e h = (h.0, minted_to f big (within big b c) cs l k e h.1)

-- after an instruction
pub minted_on : (f : Identity → ℤ) (big : Sight) (b : Before) (cs : List Caller) (old new : State) → KeepsState old new → MintedAt f big b cs old.ledger → MintedAt f big b cs new.ledger
minted_on f big b cs old new k h = minted_to f big b cs old.ledger new.ledger (λ b. before_stays b k.changes old.ledger new.ledger k.tells) h

minted_more : (f : Identity → ℤ) (big : Sight) (b : Before) (cs : List Caller) (c : Caller) (l : Ledger) → MintedAt f big b cs c.ledger → minted_before (within big (inside big b cs) c) l ≡ f → MintedAt f big b (cs ++ c ∷ []) l
minted_more f big b [] c l h g = (h, g)
minted_more f big b (d ∷ cs) c l h g = (h.0, minted_more f big (within big b d) cs c l h.1 g)

-- one caller less
pub minted_less : (f : Identity → ℤ) (big : Sight) (b : Before) (cs : List Caller) (c : Caller) (l : Ledger) → MintedAt f big b (cs ++ c ∷ []) l → MintedAt f big b cs c.ledger
minted_less f big b [] c l h = h.0
minted_less f big b (d ∷ cs) c l h = (h.0, minted_less f big (within big b d) cs c l h.1)

-- ---- the ledger of a view

looked : (test : TicketId → Bool) (ls : List (TicketId × Line)) → lookup test (map viewed_entry ls) ≡ option_map viewed_line (lookup test ls)
looked test [] = refl
looked test (c ∷ cs) = by (test c.0) (looked test cs)
  where
    by : (b : Bool) → lookup test (map viewed_entry cs) ≡ option_map viewed_line (lookup test cs) →
        cond b (Some (viewed_line c.1)) (lookup test (map viewed_entry cs)) ≡ option_map viewed_line (cond b (Some c.1) (lookup test cs))
    by true g = refl
    by false g = g

minted_on_line : (o : Option Line) → (totals_on (option_map viewed_line o)).minted ≡ (totals_on o).minted
minted_on_line None = refl
minted_on_line (Some l) = refl

burnt_on_line : (o : Option Line) → (totals_on (option_map viewed_line o)).burnt ≡ pos 0
burnt_on_line None = refl
burnt_on_line (Some l) = refl

minted_viewed : (b : Books) (id : Identity) → minted_of (viewed_books b) id ≡ minted_of b id
minted_viewed b id = ap (λ o. (totals_on o).minted) (looked (is_of id) b.lines) ∙ minted_on_line (lookup (is_of id) b.lines)

burnt_viewed : (b : Books) (id : Identity) → burnt_of (viewed_books b) id ≡ pos 0
burnt_viewed b id = ap (λ o. (totals_on o).burnt) (looked (is_of id) b.lines) ∙ burnt_on_line (lookup (is_of id) b.lines)

-- as much was minted before the run, where a view begins
minted_there : (big : Sight) (b : Before) (c : Caller) → minted_before (within big b c) (fresh (viewed_books c.ledger.books.present)) ≡ minted_before b c.ledger
minted_there big b c = λ i id. minted_viewed c.ledger.books.present id i -ℤ minted_in id (append-nil (all_changes b c.ledger) i)

pub minted_enters : (f : Identity → ℤ) (big : Sight) (b : Before) (cs : List Caller) (w : View) (m : Machine) → MintedAt f big b cs m.state.ledger →
    MintedAt f big b (cs ++ caller_of m ∷ []) (entered w m).state.ledger
minted_enters f big b cs w m h =
    minted_more f big b cs (caller_of m) (entered w m).state.ledger h (minted_there big (inside big b cs) (caller_of m) ∙ minted_now f big b cs m.state.ledger h)

-- ---- a view opens

module _ (x : Beyond) (costs : Costs) (Z : List Kind) (o : Outcome) (m : Machine) (cs : List Caller) (w : View) where
  abbrev y : Beyond
  y = in_call x cs

  abbrev u : Around
  u = around y costs m.state

  abbrev t : Tally
  t = tally y m.state

  abbrev b' : Before
  b' = within x.sight (inside x.sight x.before cs) (caller_of m)

  abbrev l : Ledger
  l = fresh (viewed_books m.state.ledger.books.present)

  abbrev around_at : Before → Around
  around_at b = record {
    environment = environment w.env;
    group = m.state.counts.group;
    prices = listed costs;
    contract_at = x.contract_at;
    minted = minted_before b l;
    burnt = burnt_before b l;
  }

  abbrev tally_at : Before → Tally
  tally_at b = record {
    gas = m.state.meter;
    operations = m.state.counts.issued;
    originations = m.state.counts.originated;
    issued = all_issued x.sight b [];
    changes = all_changes b l;
  }

  around_is : in_view u (environment w.env) t ≡ around_at b'
  around_is = λ i. record {
    environment = environment w.env;
    group = m.state.counts.group;
    prices = listed costs;
    contract_at = x.contract_at;
    minted = sym (minted_there x.sight (inside x.sight x.before cs) (caller_of m)) i;
    burnt = λ id. sym (burnt_viewed m.state.ledger.books.present id) i -ℤ (amount_issued id t.issued +ℤ burnt_in id (sym (append-nil t.changes) i));
  }

  tally_is : t ≡ tally_at b'
  tally_is = λ i. record {
    gas = m.state.meter;
    operations = m.state.counts.issued;
    originations = m.state.counts.originated;
    issued = sym (append-nil t.issued) i;
    changes = sym (append-nil t.changes) i;
  }

  abbrev P : List fr.Frame → Around → Tally → Type 0
  P hs v s = StandsAt (fr.rest (codes w.code) ∷ hs) v (seen x.sight w.value ∷ []) s (m.depth + 1) Z o

  abbrev G : List fr.Frame
  G = called x.sight x.before cs []

  pub view_in : m.depth < block_limit → HasActedIn (a.View w) (in_call x cs) costs m (called x.sight x.before cs []) Z o → InCall x costs (entered w m) (cs ++ caller_of m ∷ []) Z o
  view_in lt h =
      let hs : List fr.Frame = frames_of x.sight (inside x.sight x.before cs) (caller_of m) G in
      let one : P hs (in_view u (environment w.env) t) t = enters lt h in
      let two : P hs (around_at b') t = subst (λ v. P hs v t) around_is one in
      let three : P hs (around_at b') (tally_at b') = subst (λ s. P hs (around_at b') s) tally_is two in
      let now : Before = inside x.sight x.before (cs ++ caller_of m ∷ []) in
      let four : P hs (around_at now) (tally_at now) = subst (λ b. P hs (around_at b) (tally_at b)) (sym (inside_more x.sight x.before cs (caller_of m))) three in
      subst (λ ks. P ks (around_at now) (tally_at now)) (sym (called_more x.sight x.before cs (caller_of m) [])) four

  pub view_deep : block_limit ≤ m.depth → HasActedIn (a.View w) (in_call x cs) costs m (called x.sight x.before cs []) Z o → o ≡ failed f.depth_limit
  view_deep le h = too_deep le h

-- ---- it ends

module _ (x : Beyond) (costs : Costs) (Z : List Kind) (o : Outcome) (m : Machine) (cs : List Caller) (c : Caller) where
  abbrev Ended : Type 0
  Ended =
      StandsAt (called x.sight x.before (cs ++ c ∷ []) []) (around (in_call x (cs ++ c ∷ [])) costs m.state) (tops x.sight m.state.stack)
      (tally (in_call x (cs ++ c ∷ [])) m.state) m.depth Z o

  abbrev before : Before
  before = inside x.sight x.before cs

  framed : Ended →
      StandsAt (frames_of x.sight (inside x.sight x.before cs) c (called x.sight x.before cs [])) (around (in_call x (cs ++ c ∷ [])) costs m.state) (tops x.sight m.state.stack)
      (tally (in_call x (cs ++ c ∷ [])) m.state) m.depth Z o
  framed h =
      subst (λ hs. StandsAt hs (around (in_call x (cs ++ c ∷ [])) costs m.state) (tops x.sight m.state.stack) (tally (in_call x (cs ++ c ∷ [])) m.state) m.depth Z o)
      (called_more x.sight x.before cs c []) h

  pub view_gives : Ended → HasTop (tops x.sight m.state.stack)
  view_gives h = view_top (framed h)

  abbrev back_around : (Identity → ℤ) → Around
  back_around f = record {
    environment = environment c.env;
    group = m.state.counts.group;
    prices = listed costs;
    contract_at = x.contract_at;
    minted = f;
    burnt = burnt_before before c.ledger;
  }

  pub view_out : (new : Machine) → IsBack c m new → minted_before (inside x.sight x.before (cs ++ c ∷ [])) m.state.ledger ≡ minted_before before c.ledger →
      Ended → InCall x costs new cs Z o
  view_out new k same ended =
      let s : State = (back_to c k.stack m).state in
      let V = some (seen x.sight k.value) ∷ tops x.sight c.below in
      let hs = fr.rest (codes (drop c.at c.block)) ∷ frames x.sight c.frames ++ called x.sight x.before cs [] in
      let one : StandsAt hs (back_around (minted_before (inside x.sight x.before (cs ++ c ∷ [])) m.state.ledger)) V (tally (in_call x cs) s) m.depth Z o =
      view_ends (seen x.sight k.value)
      (subst (λ W. StandsAt (frames_of x.sight before c (called x.sight x.before cs [])) (around (in_call x (cs ++ c ∷ [])) costs m.state) W (tally (in_call x (cs ++ c ∷ [])) m.state) m.depth Z o) (k.given x.sight) (framed ended)) in
      let two : StandsAt hs (back_around (minted_before before c.ledger)) V (tally (in_call x cs) s) m.depth Z o =
      subst (λ f. StandsAt hs (back_around f) V (tally (in_call x cs) s) m.depth Z o) same one in
      let three : StandsAt hs (back_around (minted_before before c.ledger)) (tops x.sight k.stack) (tally (in_call x cs) s) m.depth Z o =
      subst (λ W. StandsAt hs (back_around (minted_before before c.ledger)) W (tally (in_call x cs) s) m.depth Z o) (sym (k.taken x.sight)) two in
      subst (λ z. InCall x costs z cs Z o) (sym k.machine) three

-- ---- what is kept, whatever view runs

pub home_on : (cs : List Caller) (s old new : State) → KeepsState s (home cs old) → KeepsState old new → KeepsState s (home cs new)
home_on [] s old new h k = keeps_on s old new h k
home_on (c ∷ cs) s old new h k = record { books = h.books; changes = h.changes; tells = h.tells; group = k.group ∙ h.group; scripts = h.scripts }

pub home_past : (cs : List Caller) (s old new : State) → KeepsState s (home cs old) → KeepsPast old new → KeepsPast s (home cs new)
home_past [] s old new h k = past_on s old new h k
home_past (c ∷ cs) s old new h k = record { books = h.books; group = k.group ∙ h.group; scripts = h.scripts }

pub home_in : (cs : List Caller) (s : State) (w : View) (m : Machine) → KeepsState s (home cs m.state) → KeepsState s (home (cs ++ caller_of m ∷ []) (entered w m).state)
home_in [] s w m h = record { books = h.books; changes = h.changes; tells = h.tells; group = h.group; scripts = h.scripts }
home_in (c ∷ cs) s w m h = record { books = h.books; changes = h.changes; tells = h.tells; group = h.group; scripts = h.scripts }

pub home_out : (cs : List Caller) (s : State) (c : Caller) (stack : List Value) (m : Machine) → KeepsState s (home (cs ++ c ∷ []) m.state) → KeepsState s (home cs (back_to c stack m).state)
home_out [] s c vs m h = record { books = h.books; changes = h.changes; tells = h.tells; group = h.group; scripts = h.scripts }
home_out (d ∷ cs) s c vs m h = record { books = h.books; changes = h.changes; tells = h.tells; group = h.group; scripts = h.scripts }

-- ---- the first caller

ones : (d c : Caller) (rest : List Caller) → d ∷ [] ≡ rest ++ c ∷ [] → d ≡ c
ones d c [] e = cc
ones d c (r ∷ []) e = absurd cc
ones d c (r ∷ q ∷ rest) e = absurd cc

pub home_first : (cs rest : List Caller) (c : Caller) (s : State) → take 1 cs ≡ rest ++ c ∷ [] → record s { ledger = c.ledger; issued = c.issued } ≡ home cs s
home_first [] [] c s e = absurd cc
home_first [] (r ∷ rest) c s e = absurd cc
home_first (d ∷ cs) rest c s e = ap (λ (c : Caller). record s { ledger = c.ledger; issued = c.issued }) (sym (ones d c rest e))

pub home_none : (cs : List Caller) (s : State) → take 1 cs ≡ [] → s ≡ home cs s
home_none [] s e = refl
home_none (d ∷ cs) s e = absurd cc
