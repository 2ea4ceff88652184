-- VIEW, where there is a view, and where there is none.
use Rattle.std.proofs.Common.{◌≡◌, ◌≤◌, ◌-◌, ℕ, List, [], ◌∷◌, Some, None, refl, sym, ap, ◌∙◌, subst}
use Rattle.std.specs.List.{flat_map}
use Rattle.std.specs.declared.option.Option.{Option}
use Rattle.std.proofs.lemmas.List.{append-nil}
use Rattle.rules_text.specs.nodes.Tree.{Tree}
use Rattle.rules_data.specs.gas.Prices.{cost}
use Rattle.rules_data.specs.declared.gas.Kind.TheVariants as g
use Rattle.rules_data.specs.types.Kind.{Kind}
use Rattle.rules_data.specs.forms.Spelling.{contract_place}
use Rattle.rules_data.specs.values.Tickets.{tickets}
use Rattle.rules_data.specs.values.Val.{Val, both, bytes, nothing}
use Rattle.rules_code.specs.steps.Changes.{burns}
use Rattle.rules_code.specs.steps.Environment.{Environment}
use Rattle.rules_code.specs.evaluation.Contracts.{Viewed, viewed}
use Rattle.rules_code.specs.evaluation.Operating.{environment_in_view}
use Rattle.rules_code.specs.evaluation.Operations.{Tally}
use Rattle.rules_code.specs.evaluation.Outcome.{Outcome, with_changes}
use Rattle.mich_frames.specs.Around.{Around, less}
use Rattle.mich_frames.specs.Frames as fr
use Rattle.mich_frames.specs.Rows.{view_row}
use Rattle.mich_frames.specs.Shapes.{HasTop, HasViewing}
use Rattle.mich_frames.specs.Stands.{MeetsAt, OpensAt, StandsAt}
use Rattle.mich_frames.proofs.ForCallers.{view_none, view_opens}
use Rattle.mich_gas.specs.View.{listed}
use Rattle.mich_gas.specs.declared.costs.Costs.{Costs}
use Rattle.mich_instr.specs.Code as made
use Rattle.mich_instr.specs.Code.{Codes}
use Rattle.mich_instr.specs.View.{codes}
use Rattle.mich_stack.specs.Views.{plain, seen, values}
use Rattle.mich_step.specs.Views.{environment}
use Rattle.mich_step.proofs.ForCallers.{tickets_same}
use Rattle.mich_term.specs.ValueView.{val}
use Rattle.mich_term.specs.declared.value.Value.{Value}
use Rattle.mich_tickets.specs.Books.{State as Ledger}
use Rattle.mich_tickets.specs.Effects.{Tells}
use Rattle.mich_tickets.specs.Limits.{IsReady}
use Rattle.mich_tickets.specs.Prefixes.{prefix_ready}
use Rattle.mich_interpreter.specs.Ends.{Acts, Meets, in_view}
use Rattle.mich_interpreter.specs.View.{Beyond, around, tally, tops}
use Rattle.mich_interpreter.specs.Viewing.{env_at}
use Rattle.mich_interpreter.specs.Visits.{IsVisit, Visits}
use Rattle.mich_interpreter.specs.declared.act.Act.TheVariants as act
use Rattle.mich_interpreter.specs.declared.act.View.{View}
use Rattle.mich_state.specs.declared.state.State.{State}
use Rattle.mich_interpreter.specs.declared.visits.Visit.{Visit}
use Rattle.mich_interpreter.proofs.Suited.{ready_tops}
use Rattle.mich_interpreter.proofs.Told.{later, stands_told}

-- ---- the stack

pub view_first : (V : List Val) → HasViewing V → HasTop V
view_first [] h = absurd h
view_first (x ∷ V) h = tt

-- ---- the view that there is

pub visited : (x : Beyond) (a b : Kind) (y : Visit) (o : Option Viewed) → IsVisit x a b o (Some y) → (q : Viewed) × (o ≡ Some q) × Visits x a b q y
visited x a b y (Some q) h = (q, refl, h)
visited x a b y None h = absurd h

pub unvisited : (x : Beyond) (a b : Kind) (o : Option Viewed) → IsVisit x a b o None → o ≡ None
unvisited x a b None h = refl
unvisited x a b (Some q) h = absurd h

-- a sight shows the tickets of a value
pub given_tickets : (x : Beyond) (v : Value) → tickets (val v) ≡ tickets (seen x.sight v)
given_tickets x v =
    sym (append-nil (tickets (val v))) ∙ sym (tickets_same (values x.sight (v ∷ [])) (plain (v ∷ [])) (x.shows (v ∷ []))) ∙ append-nil (tickets (seen x.sight v))

module _ (x : Beyond) (costs : Costs) (m : State) {fs : List fr.Frame} {d : ℕ} {Z : List Kind} {o : Outcome} {app : Tree} (name : List ℕ) (a b : Kind) (given : Value) (address : List ℕ) (W : List Value) (meter : ℕ)
    (stack_is : tops x.sight m.stack ≡ seen x.sight given ∷ bytes address ∷ tops x.sight W) (pays : cost (listed costs) g.View 0 ≤ m.meter) (paid : meter ≡ m.meter - cost (listed costs) g.View 0)
    (h : Meets (made.straight (view_row name a b) app) x costs m fs d Z o) where
  abbrev u : Around
  u = around x costs m

  abbrev t : Tally
  t = tally x m

  -- the tickets of the input may be burnt
  pub given_ready : IsReady m.ledger.books.present (tickets (val given))
  given_ready =
      subst (IsReady m.ledger.books.present) (sym (given_tickets x given))
      (prefix_ready m.ledger.books.present (tickets (seen x.sight given)) (flat_map tickets (bytes address ∷ tops x.sight W))
      (subst (λ V. IsReady m.ledger.books.present (flat_map tickets V)) stack_is (ready_tops x costs m (view_row name a b) h)))

  -- without a view they are burnt
  pub none_acts : (ledger : Ledger) (stack : List Value) → IsVisit x a b (viewed x.contract_at name a b address) None → Tells (burns (tickets (val given))) m.ledger ledger → tops x.sight stack ≡ nothing ∷ tops x.sight W →
      Acts act.On x costs (later x costs m stack meter ledger) fs d Z o
  none_acts ledger stack none told put =
      stands_told x costs m stack meter ledger fs d Z o g.View 0 (burns (tickets (seen x.sight given))) (subst (λ ts. Tells (burns ts) m.ledger ledger) (given_tickets x given) told) paid
      (subst (λ V. StandsAt fs u V (with_changes (less u g.View 0 t) (burns (tickets (seen x.sight given)))) d Z o) (sym put)
      (view_none name a b (seen x.sight given) address (tops x.sight W) pays (subst (λ V. MeetsAt (made.straight (view_row name a b) app) fs u V t d Z o) stack_is h)
      (unvisited x a b (viewed x.contract_at name a b address) none)))

  module _ (y : Visit) (w : View) (code_is : w.code ≡ y.code) (value_is : seen x.sight w.value ≡ both (seen x.sight given) (seen x.sight y.storage)) (env_is : w.env ≡ env_at m.env y.hash y.balance) where
    module _ (q : Viewed) (k : Visits x a b q y) where
      environment_is : environment_in_view (environment m.env) q ≡ environment w.env
      environment_is =
          (λ i. record {
            chain = m.env.chain;
            level = m.env.level;
            moment = m.env.now;
            source = m.env.source;
            sender = contract_place m.env.me;
            own = k.hash i;
            amount = 0;
            balance = k.balance i;
          })
          ∙ ap environment (sym env_is)

      abbrev P : Codes → Environment → Val → ℕ → Type 0
      P is e v gas =
          OpensAt is (fr.viewing u.environment u.burnt t.issued t.changes (tops x.sight W) ∷ fs) (in_view u e t) (v ∷ []) (record t { gas = gas }) d Z o

      opens_so : viewed x.contract_at name a b address ≡ Some q → P (codes w.code) (environment w.env) (seen x.sight w.value) meter
      opens_so e =
          let gas : ℕ = m.meter - cost (listed costs) g.View 0 in
          let env : Environment = environment_in_view (environment m.env) q in
          let one : P (codes y.code) env (both (seen x.sight given) q.contract.storage) gas =
          view_opens name a b (seen x.sight given) address (tops x.sight W) pays (subst (λ V. MeetsAt (made.straight (view_row name a b) app) fs u V t d Z o) stack_is h) q k.nodes (codes y.code) e k.body k.code in
          let two : P (codes y.code) env (seen x.sight w.value) gas = subst (λ v. P (codes y.code) env v gas) (ap (both (seen x.sight given)) k.storage ∙ sym value_is) one in
          let three : P (codes y.code) (environment w.env) (seen x.sight w.value) gas = subst (λ e. P (codes y.code) e (seen x.sight w.value) gas) environment_is two in
          let four : P (codes w.code) (environment w.env) (seen x.sight w.value) gas = subst (λ c. P (codes c) (environment w.env) (seen x.sight w.value) gas) (sym code_is) three in
          subst (P (codes w.code) (environment w.env) (seen x.sight w.value)) (sym paid) four

    -- a view opens
    pub view_acts : IsVisit x a b (viewed x.contract_at name a b address) (Some y) → Acts (act.View w) x costs (record m { stack = W; meter = meter }) fs d Z o
    view_acts v = let r = visited x a b y (viewed x.contract_at name a b address) v in opens_so r.0 r.2 r.1
