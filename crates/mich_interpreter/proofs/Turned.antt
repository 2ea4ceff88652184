-- Turns of a run, through views that open and end.
use Rattle.std.proofs.Common.{◌≡◌, ◌≤◌, ◌<◌, ◌++◌, List, [], ◌∷◌, refl, sym, ◌∙◌, subst}
use Rattle.rules_text.specs.nodes.Limits.{block_limit}
use Rattle.rules_data.specs.types.Kind.{Kind}
use Rattle.rules_code.specs.steps.Failure as f
use Rattle.rules_code.specs.evaluation.Outcome.{Outcome, failed, stack}
use Rattle.mich_frames.specs.Frames as fr
use Rattle.mich_frames.specs.Shapes.{HasTop}
use Rattle.mich_frames.proofs.ForCallers.{all_done}
use Rattle.mich_gas.specs.declared.costs.Costs.{Costs}
use Rattle.mich_stack.specs.Views.{Sight}
use Rattle.mich_world.specs.World.{World}
use Rattle.mich_interpreter.specs.Callers.{HasEntered, InCall, IsBack, MintedAt, SomeCall, SomeStart, back_to, called, caller_of, entered, home, in_call, inside}
use Rattle.mich_interpreter.specs.Ends.{KeepsPast, KeepsState, failure}
use Rattle.mich_interpreter.specs.Runs.{InBlock, IsStep}
use Rattle.mich_interpreter.specs.Sees.{Sees}
use Rattle.mich_interpreter.specs.View.{Before, Beyond, minted_before, tally, tops}
use Rattle.mich_interpreter.specs.declared.act.Failed.{Failed}
use Rattle.mich_interpreter.specs.declared.act.View.{View}
use Rattle.mich_interpreter.specs.declared.callers.Caller.{Caller}
use Rattle.mich_interpreter.specs.declared.machine.Machine.{Machine}
use Rattle.mich_interpreter.specs.declared.machine.Step.{Step}
use Rattle.mich_interpreter.specs.declared.machine.Step.TheVariants as s
use Rattle.mich_interpreter.proofs.Called.{home_in, home_on, home_out, home_past, minted_enters, minted_less, minted_now, minted_on, sees_in, view_deep, view_gives, view_in, view_out}
use Rattle.mich_interpreter.proofs.Keeping.{keeps_state}

-- a run goes on where it began, in the view that the last caller called
pub record Kept (v : World) (costs : Costs) (first now : Machine) (cs : List Caller) : Type 0 where
  pub some : SomeCall v costs now cs
  pub keeps : (x : Beyond) (Z : List Kind) (o : Outcome) → InCall x costs first [] Z o → Sees v x → InCall x costs now cs Z o
  pub minted : (big : Sight) (b : Before) → MintedAt (minted_before b first.state.ledger) big b cs now.state.ledger
  pub state : KeepsState first.state (home cs now.state)

-- what is said of a step
abbrev pub Steps : World → Costs → Step → Machine → Machine → Type 0
Steps v costs step old new = (x : Beyond) (gs : List fr.Frame) (Z : List Kind) (o : Outcome) → InBlock x costs old gs Z o → Sees v x → IsStep step x costs new gs Z o

-- in a call
abbrev In : Costs → Step → Machine → List Caller → Beyond → List Kind → Outcome → Type 0
In costs step new cs x Z o = IsStep step (in_call x cs) costs new (called x.sight x.before cs []) Z o

pub kept_first : (v : World) (costs : Costs) (m : Machine) → SomeStart v costs m → Kept v costs m m []
kept_first v costs m some = record { some = some; keeps = λ x Z o h s. h; minted = λ big b. refl; state = keeps_state m.state }

module _ (v : World) (costs : Costs) (first old : Machine) (cs : List Caller) (k : Kept v costs first old cs) where
  pub in_block : (x : Beyond) × (gs : List fr.Frame) × (Z : List Kind) × (o : Outcome) × InBlock x costs old gs Z o × Sees v x
  in_block =
      let r = k.some in
      (in_call r.0 cs, called r.0.sight r.0.before cs [], r.1, r.2, r.3, sees_in v r.0 cs r.4)

  step_in : (step : Step) (new : Machine) → Steps v costs step old new → (x : Beyond) (Z : List Kind) (o : Outcome) → InCall x costs first [] Z o → Sees v x → In costs step new cs x Z o
  step_in step new steps x Z o h sees = steps (in_call x cs) (called x.sight x.before cs []) Z o (k.keeps x Z o h sees) (sees_in v x cs sees)

  some_in : (step : Step) (new : Machine) → Steps v costs step old new → (x : Beyond) × (Z : List Kind) × (o : Outcome) × In costs step new cs x Z o × Sees v x
  some_in step new steps =
      let r = k.some in
      (r.0, r.1, r.2, steps (in_call r.0 cs) (called r.0.sight r.0.before cs []) r.1 r.2 r.3 (sees_in v r.0 cs r.4), r.4)

  minted_in : (new : Machine) → KeepsState old.state new.state → (big : Sight) (b : Before) → MintedAt (minted_before b first.state.ledger) big b cs new.state.ledger
  minted_in new keeps big b = minted_on (minted_before b first.state.ledger) big b cs old.state new.state keeps (k.minted big b)

  state_in : (new : Machine) → KeepsState old.state new.state → KeepsState first.state (home cs new.state)
  state_in new keeps = home_on cs first.state old.state new.state k.state keeps

  -- something that was paid for
  pub kept_paid : (new : Machine) → Steps v costs s.Paid old new → KeepsState old.state new.state → Kept v costs first new cs
  kept_paid new steps keeps =
      let r = some_in s.Paid new steps in
      record { some = (r.0, r.1, r.2, r.3, r.4); keeps = step_in s.Paid new steps; minted = minted_in new keeps; state = state_in new keeps }

  module _ (w : View) (mid : Machine) (steps : Steps v costs (s.View w) old mid) (keeps : KeepsState old.state mid.state) where
    entered_in : mid.depth < block_limit → Kept v costs first (entered w mid) (cs ++ caller_of mid ∷ [])
    entered_in lt =
        let r = some_in (s.View w) mid steps in
        record {
          some = (r.0, r.1, r.2, view_in r.0 costs r.1 r.2 mid cs w lt r.3, r.4);
          keeps = λ x Z o h sees. view_in x costs Z o mid cs w lt (step_in (s.View w) mid steps x Z o h sees);
          minted = λ big b. minted_enters (minted_before b first.state.ledger) big b cs w mid (minted_in mid keeps big b);
          state = home_in cs first.state w mid (state_in mid keeps);
        }

    -- a view that opens
    pub kept_view : (new : Machine) (ds : List Caller) → HasEntered w mid cs new ds → Kept v costs first new ds
    kept_view new ds h =
        subst (λ m. Kept v costs first m ds) (sym h.machine) (subst (λ es. Kept v costs first (entered w mid) es) (sym h.callers) (entered_in h.few))

    -- one too many
    pub view_fails : block_limit ≤ mid.depth → (x : Beyond) (Z : List Kind) (o : Outcome) → InCall x costs first [] Z o → Sees v x → o ≡ failed f.depth_limit
    view_fails le x Z o h sees = view_deep x costs Z o mid cs w le (step_in (s.View w) mid steps x Z o h sees)

    pub view_past : KeepsPast first.state (home cs mid.state)
    view_past = let p = state_in mid keeps in record { books = p.books; group = p.group; scripts = p.scripts }

  -- a failure
  module _ (reason : Failed) (new : Machine) (steps : Steps v costs (s.Failed reason) old new) where
    pub failed_in : (x : Beyond) (Z : List Kind) (o : Outcome) → InCall x costs first [] Z o → Sees v x → o ≡ failed (failure x.sight reason)
    failed_in x Z o h sees = step_in (s.Failed reason) new steps x Z o h sees

    pub failed_past : KeepsPast old.state new.state → KeepsPast first.state (home cs new.state)
    failed_past past = home_past cs first.state old.state new.state k.state past

-- a view that ends
module _ (v : World) (costs : Costs) (first old : Machine) (rest : List Caller) (c : Caller) (mid : Machine) (steps : Steps v costs s.Done old mid) (keeps : KeepsState old.state mid.state) where
  abbrev Both : Type 0
  Both = Kept v costs first old (rest ++ c ∷ [])

  gives_so : Both → (big : Sight) × HasTop (tops big mid.state.stack)
  gives_so k =
      let r = some_in v costs first old (rest ++ c ∷ []) k s.Done mid steps in
      (r.0.sight, view_gives r.0 costs r.1 r.2 mid rest c r.3)

  same_minted : Both → (big : Sight) (b : Before) → minted_before (inside big b (rest ++ c ∷ [])) mid.state.ledger ≡ minted_before (inside big b rest) c.ledger
  same_minted k big b =
      let g = minted_before b first.state.ledger in
      let all = minted_in v costs first old (rest ++ c ∷ []) k mid keeps big b in
      minted_now g big b (rest ++ c ∷ []) mid.state.ledger all ∙ sym (minted_now g big b rest c.ledger (minted_less g big b rest c mid.state.ledger all))

  back_so : (new : Machine) → IsBack c mid new → Both → Kept v costs first new rest
  back_so new back k =
      let cs = rest ++ c ∷ [] in
      let r = some_in v costs first old cs k s.Done mid steps in
      let there : Machine = back_to c back.stack mid in
      let known = step_in v costs first old cs k s.Done mid steps in
      let on = minted_in v costs first old cs k mid keeps in
      let left : KeepsState first.state (home rest there.state) = home_out rest first.state c back.stack mid (state_in v costs first old cs k mid keeps) in
      record {
        some = (r.0, r.1, r.2, view_out r.0 costs r.1 r.2 mid rest c new back (same_minted k r.0.sight r.0.before) r.3, r.4);
        keeps = λ x Z o h sees. view_out x costs Z o mid rest c new back (same_minted k x.sight x.before) (known x Z o h sees);
        minted = λ big b. subst (λ m. MintedAt (minted_before b first.state.ledger) big b rest m.state.ledger) (sym back.machine) (minted_less (minted_before b first.state.ledger) big b rest c mid.state.ledger (on big b));
        state = subst (λ m. KeepsState first.state (home rest m.state)) (sym back.machine) left;
      }

module _ (v : World) (costs : Costs) (first old : Machine) (cs : List Caller) (k : Kept v costs first old cs) (mid : Machine) (steps : Steps v costs s.Done old mid) (keeps : KeepsState old.state mid.state) where
  module _ (rest : List Caller) (c : Caller) (is : cs ≡ rest ++ c ∷ []) where
    both : Kept v costs first old (rest ++ c ∷ [])
    both = subst (λ es. Kept v costs first old es) is k

    -- it gives a value
    pub done_gives : (big : Sight) × HasTop (tops big mid.state.stack)
    done_gives = gives_so v costs first old rest c mid steps keeps both

    -- which its caller goes on with
    pub kept_back : (new : Machine) → IsBack c mid new → Kept v costs first new rest
    kept_back new back = back_so v costs first old rest c mid steps keeps new back both

  -- the end of all
  module _ (is : cs ≡ []) where
    all : Kept v costs first old []
    all = subst (λ es. Kept v costs first old es) is k

    pub done_ends : (x : Beyond) (Z : List Kind) (o : Outcome) → InCall x costs first [] Z o → Sees v x → o ≡ stack Z (tops x.sight mid.state.stack) (tally x mid.state)
    done_ends x Z o h sees = all_done (step_in v costs first old [] all s.Done mid steps x Z o h sees)

    pub done_keeps : KeepsState first.state mid.state
    done_keeps = state_in v costs first old [] all mid keeps
